-- Laws of where the rings of an outline stand. Assumes nothing.
use Prim.Native.Nat.{ℕ, zero, suc, ◌+◌, ◌*◌, ◌-◌, ◌≤◌, ◌<◌}
use mathlib.Core.Path.{◌≡◌, refl, sym, ap, ◌∙◌}
use mathlib.Core.List.{List}
use native.Mathlib.Omega.{arith}
use native.Mathlib.Numerals.{add-one}
use Rattle.std.specs.Prelude.{sum}
use Rattle.std.proofs.lemmas.List.Sums.{sum_by_more}
use Rattle.std.proofs.Math.Seq.{take-length}
use lib.ListN.{length, take, drop, length-take, length-drop}
use lib.IntN.{ℤ}
use Rattle.outline_check.specs.Outline.{rings, size_at, start_of, ring_of}
use Rattle.outline_check.specs.Inner.Counted.{Counted}

pub start_none : (sizes : List ℕ) → start_of sizes 0 ≡ 0
unfolding start_of
start_none sizes = refl

pub start_more : (sizes : List ℕ) (k : ℕ) → start_of sizes (k + 1) ≡ start_of sizes k + size_at sizes k
unfolding start_of
start_more sizes k = rw add-one

-- the sum of the first k sizes
start_sum : (sizes : List ℕ) (k : ℕ) → k ≤ length sizes → sum (take k sizes) ≡ start_of sizes k
start_sum sizes zero h = sym (start_none sizes)
start_sum sizes (suc k) h = rw (← add-one k) (sum_by_more (λ (n : ℕ). n) sizes k 0 h ∙ ap (λ (n : ℕ). n + size_at sizes k) (start_sum sizes k (omega arith)) ∙ sym (start_more sizes k))

pub start_all : (sizes : List ℕ) → sum sizes ≡ start_of sizes (rings sizes)
start_all sizes = rw take-length at (start_sum sizes (length sizes) (omega arith))

start_add : (sizes : List ℕ) (k n : ℕ) → start_of sizes k ≤ start_of sizes (k + n)
start_add sizes k zero = let e : k + 0 ≡ k = omega arith in rw e (omega arith)
start_add sizes k (suc n) =
    let e : k + suc n ≡ k + n + 1 = omega arith in rw e (omega (arith, start_add sizes k n, start_more sizes (k + n)))

pub start_mono : (sizes : List ℕ) (k j : ℕ) → k ≤ j → start_of sizes k ≤ start_of sizes j
start_mono sizes k j h = let e : k + (j - k) ≡ j = omega arith in rw e at (start_add sizes k (j - k))

-- sizes of at most b each
pub start_small : (sizes : List ℕ) (b k : ℕ) → ((j : ℕ) → j < k → size_at sizes j ≤ b) → start_of sizes k ≤ b * k
start_small sizes b zero h = omega (arith, start_none sizes)
start_small sizes b (suc k) h =
    let e : suc k ≡ k + 1 = omega arith in
    rw e (omega (arith, start_more sizes k, start_small sizes b k (λ j l. h j (omega arith)), h k (omega arith)))

module _ {sizes : List ℕ} {coords : List ℤ} (s : Counted sizes coords) (k : ℕ) (h : k < rings sizes) where
  -- ring k stands within the coordinates
  pub part_within : 2 * start_of sizes k + 2 * size_at sizes k ≤ length coords
  part_within = omega (arith, start_more sizes k, start_mono sizes (k + 1) (rings sizes) (omega arith), s.adds)

  pub start_within : 2 * start_of sizes (suc k) ≤ length coords
  start_within = let e : start_of sizes (suc k) ≡ start_of sizes k + size_at sizes k = ap (start_of sizes) (sym (add-one k)) ∙ start_more sizes k in omega (arith, part_within)

  pub ring_length : length (ring_of sizes coords k) ≡ size_at sizes k * 2
  unfolding ring_of
  ring_length = simp (length-take, length-drop) (omega (arith, part_within))

-- a part from where ring k starts to where it ends, as code has it
pub part_is : (sizes : List ℕ) (coords : List ℤ) (k start end : ℕ) → start ≡ 2 * start_of sizes k → end ≡ start + 2 * size_at sizes k
    → take (end - start) (drop start coords) ≡ ring_of sizes coords k
unfolding ring_of
part_is sizes coords k start end a b =
    let e : end - start ≡ 2 * size_at sizes k = omega arith in rw (e, a)
