-- The box of a stored segment: a box of coordinates, as wide as it is high at least 0, that holds exactly the heights between the ends. Assumes nothing.
use mathlib.Core.Path.{◌≡◌, ◌∙◌, sym}
use Prim.Native.Nat.{◌^◌, ◌<◌}
use mathlib.Core.Bool.{false, ◌&&◌, ◌||◌}
use lib.Dec.{T}
use lib.Signed.{mag}
use lib.Ieee.{Float, is_nan, le}
use Rattle.boxes.specs.declared.Rect.{Rect}
use Rattle.boxes.specs.declared.Segment.{Segment}
use Rattle.boxes.specs.Boxes.{meets}
use Rattle.boxes.specs.Segments.{point_of, rect_of}
use Rattle.floats.proofs.Values.{lesser_either, greater_either}
use Rattle.boxes.proofs.Sizes.{Coordinate, coordinate_number, stored_coordinate}
use Rattle.boxes.proofs.Quads.{Lies, Placed}
use Rattle.boxes.proofs.Lines.{height_line, own_meets, lesser_below_greater, range_is}

-- the ends are i32
pub record Stored (s : Segment) : Type 0 where
  pub ax : mag s.a.x < 2 ^ 31
  pub ay : mag s.a.y < 2 ^ 31
  pub bx : mag s.b.x < 2 ^ 31
  pub by : mag s.b.y < 2 ^ 31

module _ (s : Segment) (z : Stored s) where
  ax_coordinate : Coordinate (point_of s.a).x
  ax_coordinate = stored_coordinate s.a.x z.ax

  ay_coordinate : Coordinate (point_of s.a).y
  ay_coordinate = stored_coordinate s.a.y z.ay

  bx_coordinate : Coordinate (point_of s.b).x
  bx_coordinate = stored_coordinate s.b.x z.bx

  by_coordinate : Coordinate (point_of s.b).y
  by_coordinate = stored_coordinate s.b.y z.by

  pub rect_placed : Placed (rect_of s)
  rect_placed =
      record {
        left = lesser_either Coordinate (point_of s.a).x (point_of s.b).x ax_coordinate bx_coordinate;
        low = lesser_either Coordinate (point_of s.a).y (point_of s.b).y ay_coordinate by_coordinate;
        right = greater_either Coordinate (point_of s.a).x (point_of s.b).x ax_coordinate bx_coordinate;
        high = greater_either Coordinate (point_of s.a).y (point_of s.b).y ay_coordinate by_coordinate;
      }

  pub rect_width : T (le (rect_of s).min.x (rect_of s).max.x)
  rect_width = lesser_below_greater (point_of s.a).x (point_of s.b).x (coordinate_number (point_of s.a).x ax_coordinate).1 (coordinate_number (point_of s.b).x bx_coordinate).1

  -- the left side is a segment's "closed height range holds y"
  pub rect_heights : (y : Float) → (le (point_of s.a).y y && le y (point_of s.b).y || le (point_of s.b).y y && le y (point_of s.a).y) ≡ (le (rect_of s).min.y y && le y (rect_of s).max.y)
  rect_heights y = range_is (point_of s.a).y (point_of s.b).y (coordinate_number (point_of s.a).y ay_coordinate).1 (coordinate_number (point_of s.b).y by_coordinate).1 y

  -- so a segment in the box b is met by the line at y, as wide as b, exactly when it holds y
  pub line_meets : (b : Rect) → Lies (rect_of s) b → (y : Float) → is_nan y ≡ false
      → meets (rect_of s) (height_line b y) ≡ (le (point_of s.a).y y && le y (point_of s.b).y || le (point_of s.b).y y && le y (point_of s.a).y)
  line_meets b l y o = own_meets (rect_of s) b l rect_width y o ∙ sym (rect_heights y)
