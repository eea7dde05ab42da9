-- An accepted ring started at another of its points, and closed there, is accepted and has the same turn (`started_turned`).
-- Its doubled area is the same number (`started_area`). Assumes nothing.
use Rattle.std.specs.Prelude.{Ok}
use Prim.Native.Nat.{ℕ, suc, ◌+◌, ◌*◌, ◌-◌, ◌<◌, ◌≤◌}
use mathlib.Core.Path.{◌≡◌, sym, ap, ap₂, ◌∙◌}
use mathlib.Core.Bool.{true}
use mathlib.Core.List.{List}
use native.Mathlib.Omega.{arith}
use native.Mathlib.Decide.{dec_lt}
use lib.ListN.{length}
use lib.IntN.{ℤ, ◌+ℤ◌, +ℤ_comm}
use borrow.Author.Tests.{le-leb, lt-leb, eq-eqb, le-ltb}
use Rattle.boxes.specs.declared.I32Point.{I32Point}
use Rattle.rings.specs.Checks.{Checked}
use Rattle.rings.specs.Ring.{point_at, segments}
use Rattle.rings.specs.Checks.{same_point, closed, ring_checked}
use Rattle.rings.proofs.Whole.{eq_z_refl}
use Rattle.rings.proofs.Checks.{sound_ring}
use Rattle.turn.specs.Turn.{sum_to, turn_of, doubled_area, when_sound, turned}
use Rattle.turn.specs.Order.{around, started_at}
use Rattle.turn.proofs.Sums.{sum_below, sum_parts}
use Rattle.turn.proofs.Rows.{ends, step, ring_length, ring_points, area_of_points, area_of_row}

-- up to point n nothing is taken off, and behind it n is
before : (n j : ℕ) → j ≤ n → around n j ≡ j
before n j h = rw (le-leb j n h)

behind : (n j : ℕ) → n < j → around n j ≡ j - n
behind n j h = rw (lt-leb j n h)

-- the part of segment i
abbrev along : (ℕ → I32Point) → ℕ → ℤ
along point i = step (point i) (point (suc i))

-- the points as they are met from point k on
abbrev from : ℕ → ℕ → (ℕ → I32Point) → ℕ → I32Point
from n k point i = point (around n (k + i))

module _ (point : ℕ → I32Point) (n k : ℕ) (inside : k ≤ n) (shut : point 0 ≡ point n) where
  -- the segments from point k on, and then those before it
  first_part : (i : ℕ) → i < n - k → along (from n k point) i ≡ along point (k + i)
  first_part i h =
      let e : k + suc i ≡ suc (k + i) = omega arith in
      ap₂ step (ap point (before n (k + i) (omega arith))) (ap point (before n (k + suc i) (omega arith) ∙ e))

  -- point n is point 0
  past_end : (i j : ℕ) → j ≡ n + i → point (around n j) ≡ point i
  past_end i j e =
      elim (dec_lt 0 i) [
        | yes h ↦ let off : j - n ≡ i = omega arith in ap point (behind n j (omega arith) ∙ off)
        | no h ↦
            let end : j ≡ n = omega arith in let none : 0 ≡ i = omega arith in
            ap point (before n j (omega arith) ∙ end) ∙ sym shut ∙ ap point none
      ]

  second_part : (i : ℕ) → i < k → along (from n k point) (n - k + i) ≡ along point i
  second_part i h = ap₂ step (past_end i (k + (n - k + i)) (omega arith)) (past_end (suc i) (k + suc (n - k + i)) (omega arith))

  round_trip : sum_to (along (from n k point)) n ≡ sum_to (along point) n
  round_trip =
      let there : n ≡ n - k + k = omega arith in
      let back : k + (n - k) ≡ n = omega arith in
      ap (sum_to (along (from n k point))) there
      ∙ sum_parts (along (from n k point)) (n - k) k
      ∙ ap₂ ◌+ℤ◌ (sum_below _ (λ i. along point (k + i)) (n - k) first_part) (sum_below _ (along point) k second_part)
      ∙ +ℤ_comm (sum_to (λ i. along point (k + i)) (n - k)) (sum_to (along point) k)
      ∙ sym (sum_parts (along point) k (n - k))
      ∙ ap (sum_to (along point)) back

same_point_lem : (p : I32Point) → same_point p p ≡ true
same_point_lem p = rw (eq_z_refl p.x, eq_z_refl p.y)

module _ (ring : List ℤ) (points k : ℕ) (inside : k ≤ segments points) where
  pub started_area : closed ring points ≡ true → doubled_area (started_at k ring points) points ≡ doubled_area ring points
  unfolding started_at
  started_area shut =
      area_of_row (from (segments points) k (point_at ring)) points
      ∙ round_trip (point_at ring) (segments points) k inside (ends ring points shut)
      ∙ sym (area_of_points ring points)

  -- what starting at point k is: point i of it is the one that is met i steps after point k
  pub started_point : (i : ℕ) → i < points → point_at (started_at k ring points) i ≡ point_at ring (around (segments points) (k + i))
  unfolding started_at
  started_point i h = ring_points (from (segments points) k (point_at ring)) points i h

  -- it starts at point k, and ends there
  started_closed : 0 < points → closed ring points ≡ true → closed (started_at k ring points) points ≡ true
  unfolding started_at
  started_closed some shut =
      let n = segments points in
      let none : k + 0 ≡ k = omega arith in
      let first = ring_points (from n k (point_at ring)) points 0 some ∙ ap (point_at ring) (before n (k + 0) (omega arith) ∙ none) in
      let last =
      ring_points (from n k (point_at ring)) points n (omega arith)
      ∙ past_end (point_at ring) n k inside (ends ring points shut) k (k + n) (omega arith) in
      ap₂ same_point first last ∙ same_point_lem (point_at ring k)

  pub started_sound : ring_checked ring points ≡ Ok tt → ring_checked (started_at k ring points) points ≡ Ok tt
  unfolding started_at ring_checked
  started_sound sound =
      let a = sound_ring ring points sound in
      let sizes = sym (ring_length (from (segments points) k (point_at ring)) points) in
      rw (
        le-ltb points 2 a.enough,
        le-ltb 4097 points a.few,
        eq-eqb (points * 2) (length (started_at k ring points)) sizes,
        started_closed (omega (arith, a.enough)) a.shut,
      )

  pub started_turned : ring_checked ring points ≡ Ok tt → turned (started_at k ring points) points ≡ turned ring points
  unfolding turned
  started_turned sound =
      ap₂ (λ (checked : Checked) (area : ℤ). when_sound checked (turn_of area))
      (started_sound sound ∙ sym sound)
      (started_area (sound_ring ring points sound).shut)
