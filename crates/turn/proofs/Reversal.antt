-- A ring run through backwards turns the other way. Assumes nothing.
--
-- For every list of numbers and every point count, accepted or not: the doubled area of the points in reverse order is the
-- doubled area with its sign changed (`reversed_area`). So anticlockwise becomes clockwise, clockwise anticlockwise, and none
-- stays none (`reversed_sign`). An accepted ring stays accepted (`reversed_sound`); any ring of two numbers a point is refused
-- as before or not at all (`reversed_checked`), so that the call's whole answer is known (`reversed_turned`). Twice reversed is
-- the ring again (`reversed_twice`).
use Rattle.std.specs.Prelude.{Ok, Err}
use Prim.Native.Nat.{ℕ, zero, suc, ◌*◌, ◌-◌, ◌<◌}
use mathlib.Core.Path.{◌≡◌, refl, sym, ap, ap₂, ◌∙◌}
use mathlib.Core.Bool.{◌&&◌}
use mathlib.Core.List.{List}
use native.Mathlib.Omega.{arith}
use native.Mathlib.Decide.{dec_lt}
use lib.ListN.{length}
use lib.IntN.{ℤ, pos, negsuc, neg_ℤ, ◌+ℤ◌, neg_ℤ-+ℤ, +ℤ_comm}
use borrow.Author.Tests.{eq-eqb, lt-ltb}
use Rattle.boxes.specs.declared.I32Point.{I32Point}
use Rattle.rings.specs.Checks.{Checked}
use Rattle.rings.specs.Ring.{point_at, segments}
use Rattle.rings.specs.Checks.{eq_z, same_point, closed, ring_checked}
use Rattle.rings.proofs.Checks.{sound_ring}
use Rattle.rings.proofs.Whole.{split, diff_neg, diff_add, diff_mul, diff_same, eqb_same}
use Rattle.turn.specs.declared.Turning.{Turning}
use Rattle.turn.specs.Turn.{sum_to, turn_of, doubled_area, when_sound, turned}
use Rattle.turn.specs.Order.{reversed, opposite, oppositely}
use Rattle.turn.proofs.Sums.{sum_first, sum_same}
use Rattle.turn.proofs.Rows.{step, ring_length, ring_points, same_points, area_of_points, area_of_row}
use Rattle.turn.proofs.Sign.{opposite_turn}

-- ---- what reversing does to the points

pub reversed_length : (ring : List ℤ) (points : ℕ) → length (reversed ring points) ≡ points * 2
unfolding reversed
reversed_length ring points = ring_length _ points

-- point i of the reversed ring is the point that is i from the ring's last, x and y kept together
pub reversed_point : (ring : List ℤ) (points i : ℕ) → i < points → point_at (reversed ring points) i ≡ point_at ring (points - suc i)
unfolding reversed
reversed_point ring points i h = ring_points (λ i. point_at ring (points - suc i)) points i h

-- ---- what it does to the area

-- a segment run through backwards
back : (p q : I32Point) → step q p ≡ neg_ℤ (step p q)
back p q =
    rw (split p.x, split p.y, split q.x, split q.y)
    (simp (diff_mul, diff_neg, diff_add) (diff_same _ _ _ _ (omega arith)))

-- the parts of n segments from point n down to point 0
back_down : (point : ℕ → I32Point) (n : ℕ)
    → sum_to (λ i. step (point (n - i)) (point (n - suc i))) n ≡ neg_ℤ (sum_to (λ i. step (point i) (point (suc i))) n)
unfolding sum_to
back_down point zero = refl
back_down point (suc n) =
    let whole = sum_to (λ i. step (point i) (point (suc i))) n in
    let top : step (point (suc n - 0)) (point (suc n - 1)) ≡ neg_ℤ (step (point n) (point (suc n))) =
    ap₂ (λ (i j : ℕ). step (point i) (point j)) (omega arith) (omega arith) ∙ back (point n) (point (suc n)) in
    sum_first (λ i. step (point (suc n - i)) (point (suc n - suc i))) n
    ∙ ap₂ ◌+ℤ◌ top
    (sum_same _ _ n (λ i. ap₂ (λ (j k : ℕ). step (point j) (point k)) (omega arith) (omega arith)) ∙ back_down point n)
    ∙ sym (neg_ℤ-+ℤ (step (point n) (point (suc n))) whole)
    ∙ ap neg_ℤ (+ℤ_comm (step (point n) (point (suc n))) whole)

pub reversed_area : (ring : List ℤ) (points : ℕ) → doubled_area (reversed ring points) points ≡ neg_ℤ (doubled_area ring points)
unfolding reversed
reversed_area ring points =
    area_of_row (λ i. point_at ring (points - suc i)) points
    ∙ sum_same _ _ (segments points) (λ i. ap₂ (λ (j k : ℕ). step (point_at ring j) (point_at ring k)) (omega arith) (omega arith))
    ∙ back_down (point_at ring) (segments points)
    ∙ ap neg_ℤ (sym (area_of_points ring points))

-- ---- so the two turns are swapped, and none is kept

pub reversed_sign : (ring : List ℤ) (points : ℕ) → turn_of (doubled_area (reversed ring points) points) ≡ opposite (turn_of (doubled_area ring points))
reversed_sign ring points = ap turn_of (reversed_area ring points) ∙ opposite_turn (doubled_area ring points)

-- ---- the checks, and all of the answer

eq_z_back : (a b : ℤ) → eq_z b a ≡ eq_z a b
eq_z_back (pos a) (pos b) = eqb_same b a a b sym sym
eq_z_back (pos a) (negsuc b) = refl
eq_z_back (negsuc a) (pos b) = refl
eq_z_back (negsuc a) (negsuc b) = eqb_same b a a b sym sym

reversed_closed : (ring : List ℤ) (points : ℕ) → 0 < points → closed (reversed ring points) points ≡ closed ring points
reversed_closed ring points h =
    let first = reversed_point ring points 0 h in
    let to-first : points - suc (points - 1) ≡ 0 = omega arith in
    let last = reversed_point ring points (points - 1) (omega arith) ∙ ap (point_at ring) to-first in
    ap₂ same_point first last
    ∙ ap₂ ◌&&◌ (eq_z_back (point_at ring 0).x (point_at ring (points - 1)).x) (eq_z_back (point_at ring 0).y (point_at ring (points - 1)).y)

-- what is wrong with a ring is wrong with it backwards; what is sound stays sound
pub reversed_checked : (ring : List ℤ) (points : ℕ) → points * 2 ≡ length ring → ring_checked (reversed ring points) points ≡ ring_checked ring points
unfolding ring_checked
reversed_checked ring points sizes =
    elim (dec_lt points 2) [
      | yes few ↦ rw (lt-ltb points 2 few)
      | no more ↦
          rw (
            eq-eqb (points * 2) (length (reversed ring points)) (sym (reversed_length ring points)),
            eq-eqb (points * 2) (length ring) sizes,
            reversed_closed ring points (omega arith),
          )
    ]

pub reversed_sound : (ring : List ℤ) (points : ℕ) → ring_checked ring points ≡ Ok tt → ring_checked (reversed ring points) points ≡ Ok tt
reversed_sound ring points sound = reversed_checked ring points (sound_ring ring points sound).sizes ∙ sound

when_opposite : (checked : Checked) (turning : Turning) → when_sound checked (opposite turning) ≡ oppositely (when_sound checked turning)
when_opposite (Ok _) turning = refl
when_opposite (Err why) turning = refl

pub reversed_turned : (ring : List ℤ) (points : ℕ) → points * 2 ≡ length ring → turned (reversed ring points) points ≡ oppositely (turned ring points)
unfolding turned
reversed_turned ring points sizes =
    ap₂ when_sound (reversed_checked ring points sizes) (reversed_sign ring points) ∙ when_opposite (ring_checked ring points) (turn_of (doubled_area ring points))

-- ---- reversing loses nothing

pub reversed_twice : (ring : List ℤ) (points : ℕ) → points * 2 ≡ length ring → reversed (reversed ring points) points ≡ ring
reversed_twice ring points sizes =
    same_points (reversed (reversed ring points) points) ring points (reversed_length (reversed ring points) points) (sym sizes)
    (λ i h.
    reversed_point (reversed ring points) points i h
    ∙ reversed_point ring points (points - suc i) (omega arith)
    ∙ ap (point_at ring) (omega arith))
