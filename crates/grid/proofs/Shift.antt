-- The whole-number test over ℕ. Any three whole numbers are numbers of ℕ less one and the same, and the test asks for differences alone:
-- so all of it may be read in ℕ, where `omega` works. Assumes nothing.
use Prim.Native.Nat.{ℕ, ◌+◌, ◌*◌, ◌-◌, ◌≤◌}
use mathlib.Core.Path.{◌≡◌}
use mathlib.Core.Bool.{Bool, not, ◌&&◌, ◌||◌, beq}
use native.Mathlib.Omega.{arith}
use lib.Dec.{ltb, leb, eqb}
use lib.IntN.{ℤ}
use Rattle.rings.proofs.Whole.{diff, diff_same, diff_sub, diff_mul, lt_shift, le_shift, is_zero, above_zero, shifted}
use Rattle.cross.specs.Cross.{cross}
use Rattle.grid.specs.Grid.{is_on, is_flip}

-- a number at or above another is that and some more
pub from : (P : ℕ → Type 0) (a b : ℕ) → a ≤ b → ((k : ℕ) → P (a + k)) → P b
from P a b h f = let e : a + (b - a) ≡ b = omega arith in rw e at (f (b - a))

-- cross over ℕ: what is added, and what is taken away
abbrev pub plus : ℕ → ℕ → ℕ → ℕ → ℕ → ℕ → ℕ
plus ax ay bx by px py = bx * py + by * ax + ay * px

abbrev pub minus : ℕ → ℕ → ℕ → ℕ → ℕ → ℕ → ℕ
minus ax ay bx by px py = bx * ay + ax * py + by * px

abbrev pub between_n : ℕ → ℕ → ℕ → Bool
between_n a b p = leb a p && leb p b || leb b p && leb p a

abbrev pub straddles_n : ℕ → ℕ → ℕ → Bool
straddles_n ay by py = not (beq (ltb py ay) (ltb py by))

abbrev pub on_n : ℕ → ℕ → ℕ → ℕ → ℕ → ℕ → Bool
on_n ax ay bx by px py = eqb (plus ax ay bx by px py) (minus ax ay bx by px py) && (between_n ax bx px && between_n ay by py)

abbrev pub flip_n : ℕ → ℕ → ℕ → ℕ → ℕ → ℕ → Bool
flip_n ax ay bx by px py = straddles_n ay by py && beq (ltb (minus ax ay bx by px py) (plus ax ay bx by px py)) (ltb ay by)

module _ (o w ax ay bx by px py : ℕ) where
  cross_diff : cross (diff ax o) (diff ay w) (diff bx o) (diff by w) (diff px o) (diff py w) ≡ diff (plus ax ay bx by px py) (minus ax ay bx by px py)
  unfolding cross
  cross_diff = simp (diff_sub, diff_mul) (diff_same _ _ _ _ (omega arith))

  pub on_shift : is_on (diff ax o) (diff ay w) (diff bx o) (diff by w) (diff px o) (diff py w) ≡ on_n ax ay bx by px py
  unfolding is_on
  on_shift = simp (cross_diff, is_zero, le_shift)

  pub flip_shift : is_flip (diff ax o) (diff ay w) (diff bx o) (diff by w) (diff px o) (diff py w) ≡ flip_n ax ay bx by px py
  unfolding is_flip
  flip_shift = simp (cross_diff, above_zero, lt_shift)

-- what holds of numbers less two others holds of all whole numbers
pub plane : (P : ℤ → ℤ → ℤ → ℤ → ℤ → ℤ → Type 0)
    → ((o w ax ay bx by px py : ℕ) → P (diff ax o) (diff ay w) (diff bx o) (diff by w) (diff px o) (diff py w))
    → (ax ay bx by px py : ℤ) → P ax ay bx by px py
plane P h ax ay bx by px py =
    shifted (λ ax bx px. P ax ay bx by px py)
    (λ o a b p. shifted (λ ay by py. P (diff a o) ay (diff b o) by (diff p o) py) (λ w c d q. h o w a c b d p q) ay by py)
    ax bx px
