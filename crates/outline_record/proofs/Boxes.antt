-- The record of all rings, ring after ring, and what is read of it. Assumes nothing.
use Prim.Native.Nat.{ℕ, zero, suc, ◌+◌, ◌-◌, ◌*◌}
use mathlib.Core.Path.{◌≡◌, refl}
use mathlib.Core.List.{List}
use native.Mathlib.Omega.{arith}
use native.Mathlib.Numerals.{add-one}
use native.Mathlib.Nat.{add-zero}
use lib.ListN.{length, set, length-append}
use lib.IntN.{ℤ}
use Rattle.room.specs.Room.{write}
use Rattle.room.proofs.Write.{write_append}
use Rattle.outline_check.specs.Outline.{size_at, ring_of}
use Rattle.outline_record.specs.Record.{least_z, greatest_z, box_numbers, boxes_to}
use Rattle.outline_record.proofs.Extremes.{at}

pub boxes_none : (sizes : List ℕ) (coords out : List ℤ) → out ≡ write out 0 (boxes_to sizes coords 0)
unfolding boxes_to write
boxes_none sizes coords out = refl

-- the four stores of a ring's box are one run
pub box_written : (out ring : List ℤ) (i points : ℕ) {a b c d : ℤ}
    → a ≡ least_z (λ k. at ring 0 k) (points - 1) → b ≡ least_z (λ k. at ring 1 k) (points - 1)
    → c ≡ greatest_z (λ k. at ring 0 k) (points - 1) → d ≡ greatest_z (λ k. at ring 1 k) (points - 1)
    → set (set (set (set out i a) (i + 1) b) (i + 2) c) (i + 3) d ≡ write out i (box_numbers ring points)
unfolding write box_numbers
box_written out ring i points p q r s =
    let third : i + 1 + 1 ≡ i + 2 = omega arith in
    let fourth : i + 2 + 1 ≡ i + 3 = omega arith in
    rw (p, q, r, s, third, fourth) (simp add-zero)

module _ (sizes : List ℕ) (coords : List ℤ) where
  pub numbers_length : (ring : List ℤ) (points : ℕ) → length (box_numbers ring points) ≡ 4
  unfolding box_numbers
  numbers_length ring points = refl

  -- four numbers a ring
  pub boxes_length : (k : ℕ) → length (boxes_to sizes coords k) ≡ 4 * k
  unfolding boxes_to
  boxes_length zero = refl
  boxes_length (suc k) =
      let b = box_numbers (ring_of sizes coords k) (size_at sizes k) in
      omega (arith, length-append (boxes_to sizes coords k) b, boxes_length k, numbers_length (ring_of sizes coords k) (size_at sizes k))

  -- one ring more
  pub boxes_more : (out : List ℤ) (k : ℕ)
      → write (write out 0 (boxes_to sizes coords k)) (4 * k) (box_numbers (ring_of sizes coords k) (size_at sizes k)) ≡ write out 0 (boxes_to sizes coords (k + 1))
  unfolding boxes_to
  boxes_more out k =
      let b = box_numbers (ring_of sizes coords k) (size_at sizes k) in
      let before = boxes_to sizes coords k in
      let e : 4 * k ≡ 0 + length before = omega (arith, boxes_length k) in
      rw (add-one, e) (write_append out 0 before b)
