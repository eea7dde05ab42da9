-- 01's sample sheet: stripe of 5, 10 with least 0, height 10, 32 stripes: 16, 31. Assumes nothing.
use Rattle.std.proofs.Common.{◌≡◌, ℕ, pos, refl}
use lib.Ieee.{Float, binary64, eq, sub, mul, div, of_int, of_bits}
use Rattle.whole.specs.Floor.{floor_within}
use Rattle.stripes_place.specs.Stripe.{stripe_of}

abbrev whole : ℕ → Float
whole n = of_int binary64 (pos n)

pub five : stripe_of (whole 5) (whole 0) (whole 10) 32 ≡ 16
unfolding stripe_of of_int of_bits sub mul div eq floor_within
five = refl

pub ten : stripe_of (whole 10) (whole 0) (whole 10) 32 ≡ 31
unfolding stripe_of of_int of_bits sub mul div eq floor_within
ten = refl
