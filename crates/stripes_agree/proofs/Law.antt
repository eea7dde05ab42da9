-- Demand 3 for stripes, whatever the ring's numbers are stored in: searching a ring's own index finds exactly the segments whose own closed height range
-- holds y, each once, by rising number. Assumes nothing.
use mathlib.Core.Path.{◌≡◌, refl, sym, ap, ◌∙◌}
use mathlib.Core.List.{List, ◌++◌}
use Prim.Native.Nat.{ℕ, ◌+◌, ◌*◌, ◌≤◌, ◌<◌}
use native.Mathlib.Omega.{arith}
use mathlib.Core.Bool.{Bool, true, false, ◌&&◌, true≢false}
use lib.Dec.{T}
use lib.Ieee.{Float, le}
use Rattle.room.specs.Numbers.{up_to}
use Rattle.room.proofs.UpTo.{up_to_ext, up_to_none}
use Rattle.boxes.proofs.Sizes.{Coordinate}
use Rattle.rings.specs.Ring.{side_at, holds_height}
use Rattle.stripes_place.specs.Stripe.{stripe_of}
use Rattle.stripes_place.proofs.Mono.{stripe_mono}
use Rattle.stripes_index.specs.Index.{list_of, table_of, low_end, high_end, least_y, greatest_y, height_y, crosses}
use Rattle.stripes_index.proofs.Crossing.{crosses_at}
use Rattle.stripes_index.proofs.Ends.{holds_between, holds_within, least_finite, height_tall}
use Rattle.stripes_find.specs.Search.{complete, searched_by}
use Rattle.stripes_agree.proofs.Found.{built_reads}

false_or : (b : Bool) → (b ≡ true → ⊥) → b ≡ false
false_or true h = absurd (h refl)
false_or false h = refl

and_of : (a b : Bool) → (b ≡ true → a ≡ true) → (a && b) ≡ b
and_of true b h = refl
and_of false true h = h refl
and_of false false h = refl

by_out : (out b : Bool) (ring : ℕ → Float) (n : ℕ) (least height : Float) (stripes list : List ℕ) (y : Float) → out ≡ b
    → searched_by out ring n least height stripes list y ≡ searched_by b ring n least height stripes list y
by_out out b ring n least height stripes list y e = rw e

-- in a ring's own index of m stripes, whatever stands behind its list. `out` is what the index says of y before it looks into a stripe: a height between
-- the least and the greatest may not be out
module _ (ring : ℕ → Float) (n m : ℕ) (nums : (k : ℕ) → k < n * 2 + 2 → Coordinate (ring k)) (some : 0 < m) (few : m ≤ 65536) (rest : List ℕ) (y : Float)
    (out : Bool) (inside : T (le (least_y ring n) y) → T (le y (greatest_y ring n)) → out ≡ false) where
  abbrev cross : ℕ → ℕ → Bool
  cross = crosses ring (least_y ring n) (height_y ring n) m

  -- a segment whose range holds y crosses y's stripe
  crossed : (i : ℕ) → i < n → holds_height (side_at ring i) y ≡ true → cross (stripe_of y (least_y ring n) (height_y ring n) m) i ≡ true
  crossed i h e =
      let r = holds_between ring n nums i y h e in
      crosses_at ring (least_y ring n) (height_y ring n) m (stripe_of y (least_y ring n) (height_y ring n) m) i
      (stripe_mono (low_end ring i) y (least_y ring n) (height_y ring n) m (least_finite ring n nums) (height_tall ring n nums) some (omega arith) r.0)
      (stripe_mono y (high_end ring i) (least_y ring n) (height_y ring n) m (least_finite ring n nums) (height_tall ring n nums) some (omega arith) r.1)

  -- the search of them finds the segments whose own range holds y
  pub found_by : searched_by out ring n (least_y ring n) (height_y ring n) (table_of cross n m) (list_of cross n m ++ rest) y
      ≡ record { found = up_to (λ i. holds_height (side_at ring i) y) n 0; ending = complete }
  unfolding searched_by
  found_by = go out refl
    where
      go : (b : Bool) → out ≡ b → searched_by out ring n (least_y ring n) (height_y ring n) (table_of cross n m) (list_of cross n m ++ rest) y
          ≡ record { found = up_to (λ i. holds_height (side_at ring i) y) n 0; ending = complete }
      go true e =
          by_out out true ring n _ _ _ _ y e
          ∙ ap (λ (xs : List ℕ). record { found = xs; ending = complete })
          (sym (up_to_none (λ i. holds_height (side_at ring i) y) n 0 (λ i a h. false_or (holds_height (side_at ring i) y)
          (λ w. let r = holds_within ring n nums i y h w in true≢false (sym e ∙ inside r.0 r.1)))))
      go false e =
          by_out out false ring n _ _ _ _ y e
          ∙ built_reads cross n m some (omega arith) rest (λ i. holds_height (side_at ring i) y) (least_y ring n) (height_y ring n) y
          ∙ ap (λ (xs : List ℕ). record { found = xs; ending = complete })
          (up_to_ext _ (λ i. holds_height (side_at ring i) y) n 0
          (λ i a h. and_of (cross (stripe_of y (least_y ring n) (height_y ring n) m) i) (holds_height (side_at ring i) y) (crossed i h)))
