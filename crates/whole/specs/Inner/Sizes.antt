-- Working definitions of the inner functions: whole sizes of a value that is not negative, 0 at any other and at a NaN.
use Rattle.std.specs.Prelude.{ℕ, ◌+◌, ◌-◌, ◌*◌, ◌/◌, ◌^◌, min, true, false, Float}
use Rattle.std.specs.Float.{nan, inf, fin}
use Rattle.std.specs.Float.Ieee.{up, down}

-- the nearest, a half up, at most 2 ^ 63
unfoldable pub near_size : Float → ℕ
near_size nan = 0
near_size (inf true) = 0
near_size (inf false) = 2 ^ 63
near_size (fin true m e) = 0
near_size (fin false m e) = min ((2 * (m * up e) + down e) / (2 * down e)) (2 ^ 63)

-- the least that is not below, at most 2 ^ 64 - 1
unfoldable pub ceiling_size : Float → ℕ
ceiling_size nan = 0
ceiling_size (inf true) = 0
ceiling_size (inf false) = 2 ^ 64 - 1
ceiling_size (fin true m e) = 0
ceiling_size (fin false m e) = min ((m * up e + (down e - 1)) / down e) (2 ^ 64 - 1)
