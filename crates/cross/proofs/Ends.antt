-- The sign at both ends of the range, on the diagonal from (-2^31, -2^31) to (2^31 - 1, 2^31 - 1): zero on it, and one unit or the whole range beside it.
-- The products here reach (2^32 - 1)^2. Assumes nothing.
use mathlib.Core.Path.{◌≡◌, refl}
use lib.IntN.{ℤ, pos, negsuc}
use Rattle.cross.specs.declared.Sign.{Sign}
use Rattle.cross.specs.declared.Sign.TheVariants.{Below, Zero, Above}
use Rattle.cross.specs.Cross.{cross, sign_of}

abbrev least : ℤ
least = negsuc 2147483647

abbrev most : ℤ
most = pos 2147483647

abbrev beside : ℤ → ℤ → Sign
beside px py = sign_of (cross least least most most px py)

pub record AtTheEnds : Type 0 where
  pub on_it : (beside least least ≡ Zero) × (beside (pos 0) (pos 0) ≡ Zero) × (beside most most ≡ Zero)
  pub one_unit_above : (beside least (negsuc 2147483646) ≡ Above) × (beside (pos 0) (pos 1) ≡ Above) × (beside (pos 2147483646) most ≡ Above)
  pub one_unit_below : (beside (negsuc 2147483646) least ≡ Below) × (beside (pos 1) (pos 0) ≡ Below) × (beside most (pos 2147483646) ≡ Below)
  pub farthest : (beside least most ≡ Above) × (beside most least ≡ Below)

pub at_the_ends : AtTheEnds
unfolding cross
at_the_ends =
    record {
      on_it = (refl, refl, refl);
      one_unit_above = (refl, refl, refl);
      one_unit_below = (refl, refl, refl);
      farthest = (refl, refl);
    }
