-- 02, CR 1: "then, over the whole shape, 1, 2, 12, 4 .. and last 8". Here are the rules up to 4, in that order, each over all rings before the next, and
-- the lowest ring at fault is named. Rule 3 cannot occur, since the counts are those of the points that were read; rule 6 is withdrawn (CR 14).
use Rattle.std.specs.Prelude.{Result, Ok, Err, ℕ, zero, suc, [], ◌∷◌, Bool, not, cond, ltb, length, Float}
use Rattle.answers.specs.declared.Refusal.TheVariants.{TooFew, TooMany, NotClosed}
use Rattle.rings.specs.Checks.{min_points, max_points, closed}
use Rattle.outline_check.specs.Rules.{min_rings, max_rings}
use Rattle.wkb_shape.specs.declared.WkbRefusal.{WkbRefusal}
use Rattle.wkb_shape.specs.declared.WkbRefusal.TheVariants.{Unstored, Plain}
use Rattle.wkb_shape.specs.Wkb.{Ring, Shape}
use Rattle.wkb_read.specs.Stored.{all_storable, ring_coords}

-- What the rules find of a shape.
abbrev pub Judged : Type 0
Judged = Result (Unit {0}) WkbRefusal

-- the lowest ring at fault, or how many rings there are
unfoldable pub fault_at : (Ring → Bool) → Shape → ℕ
fault_at ok [] = zero
fault_at ok (r ∷ rs) = cond (ok r) (suc (fault_at ok rs)) zero

-- a rule over all rings, and then the others
unfoldable pub each_ring : (Ring → Bool) → (ℕ → WkbRefusal) → Shape → Judged → Judged
each_ring ok why shape later = cond (ltb (fault_at ok shape) (length shape)) (Err (why (fault_at ok shape))) later

-- a rule on the count of rings
abbrev pub holding : Bool → WkbRefusal → Judged → Judged
holding t why later = cond t later (Err why)

abbrev pub enough : Ring → Bool
enough r = not (ltb (length r) min_points)

abbrev pub not_over : Ring → Bool
not_over r = not (ltb max_points (length r))

-- 4 is asked of the stored numbers
abbrev pub shut : Float → Ring → Bool
shut scale r = closed (ring_coords scale r) (length r)

unfoldable pub judged : Float → Shape → Judged
judged scale shape =
    holding (not (ltb (length shape) min_rings)) (Plain (TooFew 0))
    (each_ring enough (λ k. Plain (TooFew k)) shape
    (holding (not (ltb max_rings (length shape))) (Plain (TooMany max_rings))
    (each_ring not_over (λ k. Plain (TooMany k)) shape
    (each_ring (all_storable scale) Unstored shape
    (each_ring (shut scale) (λ k. Plain (NotClosed k)) shape (Ok tt))))))
