-- The doubled area of a closed ring is the difference of two sums of products of raised coordinates. Assumes nothing.
use Prim.Native.Nat.{ℕ, suc, ◌+◌, ◌*◌, ◌^◌}
use mathlib.Core.Path.{◌≡◌, sym, ap, ◌∙◌}
use mathlib.Core.Bool.{true}
use mathlib.Core.List.{List}
use native.Mathlib.Omega.{arith}
use lib.ListN.{get_or}
use lib.IntN.{ℤ, pos, ◌+ℤ◌, ◌-ℤ◌, ◌*ℤ◌, +ℤ_idr}
use Rattle.boxes.specs.declared.I32Point.{I32Point}
use Rattle.rings.specs.Ring.{segment_at, segments}
use Rattle.rings.specs.Checks.{closed}
use Rattle.rings.proofs.Whole.{split, diff_add, diff_sub, diff_mul, diff_same}
use Rattle.turn.specs.Turn.{sum_to, part, doubled_area}
use Rattle.turn.specs.Inner.Halves.{plus_of, minus_of}
use Rattle.turn.proofs.Sums.{sum_same, sum_sub, sum_add, sum_steps, cancel}
use Rattle.turn.proofs.Rows.{ends}

-- ---- one segment

-- raising all coordinates by o changes a segment's part by the step of o (x - y)
raised_part : (o x y x' y' : ℤ)
    → (x +ℤ o) *ℤ (y' +ℤ o) -ℤ (x' +ℤ o) *ℤ (y +ℤ o) ≡ (x *ℤ y' -ℤ x' *ℤ y) +ℤ (o *ℤ (x -ℤ y) -ℤ o *ℤ (x' -ℤ y'))
raised_part o x y x' y' =
    rw (split o, split x, split y, split x', split y')
    (simp (diff_add, diff_sub, diff_mul) (diff_same _ _ _ _ (omega arith)))

-- ---- the ring

module _ (ring : List ℤ) where
  at : ℕ → ℤ
  at k = get_or ring k (pos 0)

  -- what raising adds at point i
  lift : ℕ → ℤ
  lift i = pos (2 ^ 31) *ℤ (at (i * 2) -ℤ at (i * 2 + 1))

  plus : ℕ → ℤ
  plus i = plus_of (segment_at ring i)

  minus : ℕ → ℤ
  minus i = minus_of (segment_at ring i)

  segment_part : (i : ℕ) → plus i -ℤ minus i ≡ part (segment_at ring i) +ℤ (lift i -ℤ lift (suc i))
  unfolding at lift plus minus
  segment_part i =
      let x : suc i * 2 ≡ i * 2 + 2 = omega arith in
      let y : suc i * 2 + 1 ≡ i * 2 + 3 = omega arith in
      rw (y, x) (raised_part (pos (2 ^ 31)) (at (i * 2)) (at (i * 2 + 1)) (at (i * 2 + 2)) (at (i * 2 + 3)))

  -- for a closed ring nothing is added
  pub area_is : (points : ℕ) → closed ring points ≡ true
      → doubled_area ring points ≡ sum_to (λ i. plus_of (segment_at ring i)) (segments points) -ℤ sum_to (λ i. minus_of (segment_at ring i)) (segments points)
  unfolding at lift plus minus
  area_is points shut =
      let n = segments points in
      let level : lift 0 ≡ lift n = ap (λ (p : I32Point). pos (2 ^ 31) *ℤ (p.x -ℤ p.y)) (ends ring points shut) in
      sym (
      sum_sub plus minus n
      ∙ sum_same (λ i. plus i -ℤ minus i) (λ i. part (segment_at ring i) +ℤ (lift i -ℤ lift (suc i))) n segment_part
      ∙ sum_add (λ i. part (segment_at ring i)) (λ i. lift i -ℤ lift (suc i)) n
      ∙ ap (λ (z : ℤ). doubled_area ring points +ℤ z) (sum_steps lift n ∙ ap (λ (z : ℤ). z -ℤ lift n) level ∙ cancel (lift n))
      ∙ +ℤ_idr (doubled_area ring points))
