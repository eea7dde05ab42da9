-- Stored points and segments as floats, which hold every i32.
use Rattle.std.specs.Float.{binary64}
use Rattle.std.specs.Float.Ieee.{of_int}
use Rattle.floats.specs.Values.{lesser_of, greater_of}
use Rattle.boxes.specs.declared.Point.{Point}
use Rattle.boxes.specs.declared.I32Point.{I32Point}
use Rattle.boxes.specs.declared.Rect.{Rect}
use Rattle.boxes.specs.declared.Segment.{Segment}
use Rattle.boxes.specs.declared.Side.{Side}

-- exact: an i32 is rounded to itself
abbrev pub point_of : I32Point → Point
point_of p = record { x = of_int binary64 p.x; y = of_int binary64 p.y }

-- a segment's box: the lesser and the greater of the ends. It is on floats, so that it holds whatever the ends are stored in
abbrev pub box_of : Side → Rect
box_of s =
    record {
      min = record { x = lesser_of s.a.x s.b.x; y = lesser_of s.a.y s.b.y };
      max = record { x = greater_of s.a.x s.b.x; y = greater_of s.a.y s.b.y };
    }

-- of a stored segment
abbrev pub rect_of : Segment → Rect
rect_of s = box_of (record { a = point_of s.a; b = point_of s.b })
