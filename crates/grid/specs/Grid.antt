-- 01, "Whole-number test", in the mathematical integers, for any ends and any p. The names are 01's: (ax, ay) and (bx, by) are the ends, (px, py) is p.
use Rattle.std.specs.Prelude.{Bool, not, cond, ◌&&◌, ◌||◌, ℤ, pos}
use Rattle.std.specs.Bool.{beq}
use Rattle.std.specs.Int.Signed.{lt_z, le_z}
use Rattle.boxes.specs.declared.Segment.{Segment}
use Rattle.rings.specs.Checks.{eq_z}
use Rattle.cross.specs.Cross.{cross}
use Rattle.grid.specs.declared.GridResult.{GridResult}
use Rattle.grid.specs.declared.GridResult.TheVariants.{OnSegment, Flips, Passes}

-- p is between a and b, both included
abbrev pub between : ℤ → ℤ → ℤ → Bool
between a b p = le_z a p && le_z p b || le_z b p && le_z p a

-- "p is in the segment's closed box"
abbrev pub in_box : ℤ → ℤ → ℤ → ℤ → ℤ → ℤ → Bool
in_box ax ay bx by px py = between ax bx px && between ay by py

-- "on when cross is 0 and p is in the segment's closed box"
unfoldable pub is_on : ℤ → ℤ → ℤ → ℤ → ℤ → ℤ → Bool
is_on ax ay bx by px py = eq_z (cross ax ay bx by px py) (pos 0) && in_box ax ay bx by px py

-- "exactly one end is above p"
abbrev pub straddles : ℤ → ℤ → ℤ → Bool
straddles ay by py = not (beq (lt_z py ay) (lt_z py by))

-- "Flip when exactly one end is above p and (cross > 0) equals (by > ay)"
unfoldable pub is_flip : ℤ → ℤ → ℤ → ℤ → ℤ → ℤ → Bool
is_flip ax ay bx by px py = straddles ay by py && beq (lt_z (pos 0) (cross ax ay bx by px py)) (lt_z ay by)

abbrev pub result_of : ℤ → ℤ → ℤ → ℤ → ℤ → ℤ → GridResult
result_of ax ay bx by px py = cond (is_on ax ay bx by px py) OnSegment (cond (is_flip ax ay bx by px py) Flips Passes)

abbrev pub grid_result : Segment → ℤ → ℤ → GridResult
grid_result s px py = result_of s.a.x s.a.y s.b.x s.b.y px py
