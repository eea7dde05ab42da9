-- Boxes: "A box is two corners, each two floats". Comparisons are IEEE 754's, so one with a NaN is false.
use Rattle.std.specs.Prelude.{Bool, ◌&&◌, ◌||◌, not, zero, suc, ℤ, pos, negsuc}
use Rattle.std.specs.Float.Ieee.{le, lt}
use Rattle.boxes.specs.declared.Point.{Point}
use Rattle.boxes.specs.declared.Rect.{Rect}
use Rattle.boxes.specs.declared.Side.{Side}

-- p lies in the closed box
abbrev pub holds : Rect → Point → Bool
holds b p = le b.min.x p.x && le p.x b.max.x && le b.min.y p.y && le p.y b.max.y

-- "Boxes answer by value whether they meet, touching included": neither lies strictly above, below, left or right of the other.
-- So a NaN holds no two boxes apart, as in the source.
abbrev pub meets : Rect → Rect → Bool
meets b c =
    not (lt c.max.y b.min.y || lt b.max.y c.min.y)
    && not (lt c.max.x b.min.x || lt b.max.x c.min.x)

-- ---- corners and sides
abbrev pub nw_of : Rect → Point
nw_of b = record { x = b.min.x; y = b.max.y }

abbrev pub sw_of : Rect → Point
sw_of b = record { x = b.min.x; y = b.min.y }

abbrev pub se_of : Rect → Point
se_of b = record { x = b.max.x; y = b.min.y }

abbrev pub ne_of : Rect → Point
ne_of b = record { x = b.max.x; y = b.max.y }

abbrev pub south_of : Rect → Side
south_of b = record { a = sw_of b; b = se_of b }

abbrev pub east_of : Rect → Side
east_of b = record { a = se_of b; b = ne_of b }

abbrev pub north_of : Rect → Side
north_of b = record { a = ne_of b; b = nw_of b }

abbrev pub west_of : Rect → Side
west_of b = record { a = nw_of b; b = sw_of b }

-- south 0, east 1, north 2, west 3; "outside 0 to 3 it is south's"
abbrev pub side_at : Rect → ℤ → Side
side_at b (pos zero) = south_of b
side_at b (pos (suc zero)) = east_of b
side_at b (pos (suc (suc zero))) = north_of b
side_at b (pos (suc (suc (suc zero)))) = west_of b
side_at b (pos (suc (suc (suc (suc n))))) = south_of b
side_at b (negsuc n) = south_of b
