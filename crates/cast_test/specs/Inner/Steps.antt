-- What is known of the answer while segments are passed over once.
use Rattle.std.specs.Prelude.{Bool, not, cond, ℕ, Float}
use Rattle.std.specs.declared.ops.ControlFlow.{ControlFlow}
use Rattle.std.specs.declared.ops.ControlFlow.TheVariants.{Continue, Break}
use Rattle.boxes.specs.declared.Point.{Point}
use Rattle.rays.specs.declared.RaycastResult.{RaycastResult}
use Rattle.rays.specs.declared.RaycastResult.TheVariants.{On, Inside, Neither}
use Rattle.rings.specs.Ring.{side_at, holds_height}
use Rattle.cast_test.specs.Test.{cast_at}

-- how the answer stands by the segments before, and whether the point is on one of them: broken off once it is
abbrev pub Seen : Type 0
Seen = ControlFlow Bool Bool

abbrev pub seen_next : RaycastResult → Bool → Seen
seen_next On inside = Break inside
seen_next Inside inside = Continue (not inside)
seen_next Neither inside = Continue inside

-- once "on" is met nothing changes, nor by a segment whose own range does not hold p's height
unfoldable pub step_of : (ℕ → Float) → ℕ → Point → Seen → Seen
step_of ring i p (Break inside) = Break inside
step_of ring i p (Continue inside) = cond (holds_height (side_at ring i) p.y) (seen_next (cast_at ring i p) inside) (Continue inside)
