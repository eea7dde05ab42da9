-- What the sign of a whole number tells of it. Assumes nothing.
use Prim.Native.Nat.{zero, suc}
use mathlib.Core.Path.{◌≡◌, refl}
use mathlib.Core.Bool.{true, false}
use native.Mathlib.Omega.{arith}
use lib.IntN.{ℤ, pos, negsuc}
use lib.Signed.{lt_z}
use borrow.Author.Tests.{lt-ltb, ne_eqb}
use Rattle.rings.specs.Checks.{eq_z}
use Rattle.cross.specs.declared.Sign.TheVariants.{Below, Zero, Above}
use Rattle.cross.specs.Cross.{sign_of}

pub zero_tells : (z : ℤ) → sign_of z ≡ Zero → eq_z z (pos 0) ≡ true
zero_tells (negsuc n) e = cc
zero_tells (pos zero) e = refl
zero_tells (pos (suc n)) e = cc

pub above_tells : (z : ℤ) → sign_of z ≡ Above → (eq_z z (pos 0) ≡ false) × (lt_z (pos 0) z ≡ true)
above_tells (negsuc n) e = (cc, cc)
above_tells (pos zero) e = (cc, cc)
above_tells (pos (suc n)) e = (ne_eqb (suc n) 0 (λ h. omega arith), lt-ltb 0 (suc n) (omega arith))

pub below_tells : (z : ℤ) → sign_of z ≡ Below → (eq_z z (pos 0) ≡ false) × (lt_z (pos 0) z ≡ false)
below_tells (negsuc n) e = (refl, refl)
below_tells (pos zero) e = (cc, cc)
below_tells (pos (suc n)) e = (cc, cc)
