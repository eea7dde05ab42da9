-- The least and the greatest of a ring's coordinates, one point after another. Assumes nothing.
use Prim.Native.Nat.{ℕ, zero, suc, ◌+◌, ◌*◌}
use mathlib.Core.Path.{◌≡◌, refl, ap}
use native.Mathlib.Omega.{arith}
use native.Mathlib.Numerals.{add-one}
use lib.Ieee.{Float}
use Rattle.floats.specs.Values.{lesser_of, greater_of}
use Rattle.tree.specs.Tree.{picked, least, greatest}

-- the first (offset 0) or the second (offset 1) coordinate of point k
abbrev pub at : (ℕ → Float) → ℕ → ℕ → Float
at ring offset k = ring (k * 2 + offset)

module _ (ring : ℕ → Float) (offset : ℕ) (pick : Float → Float → Float) where
  pub picked_first : ring offset ≡ picked pick (at ring offset) 0
  unfolding picked
  picked_first = ap ring (omega arith)

  pub picked_next : (i : ℕ) → pick (picked pick (at ring offset) i) (at ring offset (i + 1)) ≡ picked pick (at ring offset) (i + 1)
  unfolding picked
  picked_next i = rw add-one

pub picked_least : (f : ℕ → Float) (n : ℕ) → picked lesser_of f n ≡ least f n
unfolding picked least
picked_least f zero = refl
picked_least f (suc n) = ap (λ (x : Float). lesser_of x (f (suc n))) (picked_least f n)

pub picked_greatest : (f : ℕ → Float) (n : ℕ) → picked greater_of f n ≡ greatest f n
unfolding picked greatest
picked_greatest f zero = refl
picked_greatest f (suc n) = ap (λ (x : Float). greater_of x (f (suc n))) (picked_greatest f n)
