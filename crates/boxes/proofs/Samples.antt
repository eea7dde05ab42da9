-- Worked cases of the definitions, by computing: who goes to a quadrant of the box from (0,0) to (10,10), whose middle is (5,5). Assumes nothing.
use Rattle.std.specs.Prelude.{Some, None}
use mathlib.Core.Path.{◌≡◌, refl}
use lib.IntN.{ℤ, pos, negsuc}
use lib.Ieee.{nan, binary64, add, div, lt, of_bits, of_int}
use Rattle.boxes.specs.declared.Rect.{Rect}
use Rattle.boxes.specs.Boxes.{side_at, south_of}
use Rattle.boxes.specs.Quads.{box, chosen, quad_bounds}

abbrev whole : ℤ → ℤ → ℤ → ℤ → Rect
whole x₀ y₀ x₁ y₁ = box (of_int binary64 x₀) (of_int binary64 y₀) (of_int binary64 x₁) (of_int binary64 y₁)

abbrev square : Rect
square = whole (pos 0) (pos 0) (pos 10) (pos 10)

-- a segment that touches the middle from the west, or from the south, stays
from_the_west : chosen square (whole (pos 1) (pos 6) (pos 5) (pos 9)) ≡ None
unfolding add div lt of_bits of_int
from_the_west = refl

from_the_south : chosen square (whole (pos 1) (pos 1) (pos 4) (pos 5)) ≡ None
unfolding add div lt of_bits of_int
from_the_south = refl

-- one that touches it from the east and from the north is in quadrant 1
from_the_east : chosen square (whole (pos 5) (pos 5) (pos 9) (pos 9)) ≡ Some 1
unfolding add div lt of_bits of_int
from_the_east = refl

-- a box of NaNs is not below the middle
of_nans : chosen square (box nan nan nan nan) ≡ Some 1
unfolding add div lt of_bits of_int
of_nans = refl

north_west : quad_bounds square 0 ≡ whole (pos 0) (pos 5) (pos 5) (pos 10)
unfolding add div of_bits of_int
north_west = refl

outside_is_south : side_at square (negsuc 0) ≡ south_of square
outside_is_south = refl
