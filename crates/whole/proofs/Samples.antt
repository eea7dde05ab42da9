-- Worked values of the floor and of rounding, computed. Assumes nothing.
use Rattle.std.proofs.Common.{◌≡◌, ◌-◌, ◌^◌, true, false, pos, negsuc, refl}
use lib.Ieee.{fin, binary64, of_bits}
use Rattle.whole.specs.Floor.{floor_to}
use Rattle.whole.specs.Round.{round_to}

-- 9.5 and -0.5, as 01's sheet snaps them
pub nine_and_a_half : round_to 63 (fin false 19 (negsuc 0)) ≡ pos 10
unfolding round_to
nine_and_a_half = refl

pub minus_half : round_to 63 (fin true 1 (negsuc 0)) ≡ negsuc 0
unfolding round_to
minus_half = refl

-- the float below a half, where adding a half and cutting would give 1
pub below_half : round_to 63 (of_bits binary64 0x3fdf_ffff_ffff_ffff) ≡ pos 0
unfolding round_to of_bits
below_half = refl

-- the ends
pub at_first : round_to 63 (fin true 1 (pos 63)) ≡ negsuc (2 ^ 63 - 1)
unfolding round_to
at_first = refl

pub at_last : round_to 63 (fin false 1 (pos 63)) ≡ pos (2 ^ 63 - 1)
unfolding round_to
at_last = refl

pub floor_minus_half : floor_to 63 (fin true 1 (negsuc 0)) ≡ negsuc 0
unfolding floor_to
floor_minus_half = refl
