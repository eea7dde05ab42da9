-- A ring and its points: a ring made of a row of points has these points, and its doubled area is the sum of the parts from each
-- to the next. Assumes nothing.
use Prim.Native.Nat.{ℕ, zero, suc, ◌+◌, ◌*◌, ◌/◌, ◌%◌, ◌<◌}
use mathlib.Core.Path.{◌≡◌, refl, sym, ap, ap₂, ◌∙◌}
use mathlib.Core.Bool.{true}
use mathlib.Core.List.{List}
use native.Mathlib.Omega.{arith}
use native.Mathlib.Decide.{ℕ_discrete}
use lib.ListN.{length, get_or}
use lib.Seq.{ext_get_or}
use lib.IntN.{ℤ, pos}
use Rattle.boxes.specs.declared.I32Point.{I32Point}
use Rattle.rings.specs.Ring.{point_at, segment_at, segments}
use Rattle.rings.specs.Checks.{eq_z, closed}
use Rattle.rings.proofs.Whole.{eq_z_true}
use Rattle.rings.proofs.Checks.{both}
use Rattle.turn.specs.Turn.{sum_to, part, doubled_area}
use Rattle.turn.specs.Order.{ring_of}
use Rattle.turn.proofs.Sums.{sum_same, sum_below}

-- the first and the last point of a closed ring are the same
pub ends : (ring : List ℤ) (points : ℕ) → closed ring points ≡ true → point_at ring 0 ≡ point_at ring (segments points)
ends ring points shut =
    let first = point_at ring 0 in let last = point_at ring (segments points) in
    let e = both (eq_z first.x last.x) (eq_z first.y last.y) shut in
    ap₂ (λ (x y : ℤ). record { x = x; y = y }) (eq_z_true first.x last.x e.0) (eq_z_true first.y last.y e.1)

pub ring_length : (point : ℕ → I32Point) (n : ℕ) → length (ring_of point n) ≡ n * 2
unfolding ring_of
ring_length point zero = refl
ring_length point (suc n) = omega (arith, ring_length (λ i. point (suc i)) n)

pub ring_points : (point : ℕ → I32Point) (n i : ℕ) → i < n → point_at (ring_of point n) i ≡ point i
unfolding ring_of
ring_points point zero i h = absurd (omega arith)
ring_points point (suc n) zero h = refl
ring_points point (suc n) (suc i) h =
    let x : suc i * 2 ≡ suc (suc (i * 2)) = omega arith in
    let y : suc i * 2 + 1 ≡ suc (suc (i * 2 + 1)) = omega arith in
    rw (y, x) (ring_points (λ i. point (suc i)) n i (omega arith))

-- two rings of the same points are the same
pub same_points : (a b : List ℤ) (points : ℕ) → length a ≡ points * 2 → length b ≡ points * 2
    → ((i : ℕ) → i < points → point_at a i ≡ point_at b i) → a ≡ b
same_points a b points la lb same = ext_get_or (pos 0) a b (la ∙ sym lb) at
  where
    at : (k : ℕ) → k < length a → get_or a k (pos 0) ≡ get_or b k (pos 0)
    at k h =
        let p = same (k / 2) (omega arith) in
        elim (ℕ_discrete (k % 2) 0) [
          | yes even ↦ let e : k ≡ k / 2 * 2 = omega arith in rw e (ap (λ (p : I32Point). p.x) p)
          | no odd ↦ let e : k ≡ k / 2 * 2 + 1 = omega arith in rw e (ap (λ (p : I32Point). p.y) p)
        ]

-- the part of the segment from p to q
abbrev pub step : I32Point → I32Point → ℤ
step p q = part (record { a = p; b = q })

-- a segment runs from a point to the next
pub next_point : (ring : List ℤ) (i : ℕ) → part (segment_at ring i) ≡ step (point_at ring i) (point_at ring (suc i))
next_point ring i =
    let x : suc i * 2 ≡ i * 2 + 2 = omega arith in
    let y : suc i * 2 + 1 ≡ i * 2 + 3 = omega arith in
    rw (y, x)

pub area_of_points : (ring : List ℤ) (points : ℕ) → doubled_area ring points ≡ sum_to (λ i. step (point_at ring i) (point_at ring (suc i))) (segments points)
area_of_points ring points = sum_same _ _ (segments points) (next_point ring)

pub area_of_row : (point : ℕ → I32Point) (points : ℕ) → doubled_area (ring_of point points) points ≡ sum_to (λ i. step (point i) (point (suc i))) (segments points)
area_of_row point points =
    area_of_points (ring_of point points) points
    ∙ sum_below _ _ (segments points) (λ i h. ap₂ step (ring_points point points i (omega arith)) (ring_points point points (suc i) (omega arith)))
