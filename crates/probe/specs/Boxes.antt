-- Points, segments and boxes from their numbers, and the numbers that stand for them.
use Rattle.std.specs.Prelude.{Option, Some, None, ℕ, zero, suc, ℤ, Float}
use Rattle.boxes.specs.declared.Point.{Point}
use Rattle.boxes.specs.declared.I32Point.{I32Point}
use Rattle.boxes.specs.declared.Rect.{Rect}
use Rattle.boxes.specs.declared.Side.{Side}
use Rattle.boxes.specs.declared.Segment.{Segment}
use Rattle.boxes.specs.Boxes.{nw_of, sw_of, se_of, ne_of, south_of, east_of, north_of, west_of}

abbrev pub point : Float → Float → Point
point px py = record { x = px; y = py }

abbrev pub i32_point : ℤ → ℤ → I32Point
i32_point px py = record { x = px; y = py }

abbrev pub segment : ℤ → ℤ → ℤ → ℤ → Segment
segment ax ay bx by = record { a = i32_point ax ay; b = i32_point bx by }

-- four by number, the last for any other number
abbrev pub by_number : {A : Type 0} → A → A → A → A → ℕ → A
by_number first second third last zero = first
by_number first second third last (suc zero) = second
by_number first second third last (suc (suc zero)) = third
by_number first second third last (suc (suc (suc n))) = last

abbrev pub corner_of : Rect → ℕ → Point
corner_of b which = by_number (nw_of b) (sw_of b) (se_of b) (ne_of b) which

abbrev pub side_of : Rect → ℕ → Side
side_of b which = by_number (south_of b) (east_of b) (north_of b) (west_of b) which

abbrev pub point_numbers : Point → Float × Float
point_numbers p = (p.x, p.y)

abbrev pub side_numbers : Side → Float × Float × Float × Float
side_numbers s = (s.a.x, s.a.y, s.b.x, s.b.y)

abbrev pub rect_numbers : Rect → Float × Float × Float × Float
rect_numbers b = (b.min.x, b.min.y, b.max.x, b.max.y)

-- 4 for a segment that stays
abbrev pub chosen_number : Option ℕ → ℕ
chosen_number (Some q) = q
chosen_number None = 4
