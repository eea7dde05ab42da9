use native.Mathlib.Omega.{arith}
use Rattle.wkb_shape.specs.Inner.Laid.{count_of, next_of}
use Rattle.wkb_read.proofs.Walk.{count_there, points_there}
use Rattle.wkb_read.proofs.Put.{sizing, sizing_on, sizing_done}
use Rattle.wkb_read.proofs.Polygon.put_sizes.Goals as goal

pub loop-k-init : goal.loop-k-init
loop-k-init c = sizing _ _ _ _ c.args.self.ends c.requires

pub u32_at-points-requires : goal.u32_at-points-requires
u32_at-points-requires c = count_there _ _ _ _ _ c.loop-k.invariant.on c.loop-k-test.true

pub overflow_add-at : goal.overflow_add-at
unfolding count_of
overflow_add-at c = omega (arith, points_there _ _ _ _ _ c.loop-k.invariant.on c.loop-k-test.true, c.u32_at-points.ensures)

pub overflow_add-at-in-loop-k : goal.overflow_add-at-in-loop-k
unfolding count_of
overflow_add-at-in-loop-k c = omega (arith, points_there _ _ _ _ _ c.loop-k.invariant.on c.loop-k-test.true, c.u32_at-points.ensures)

pub loop-k-preserved : goal.loop-k-preserved
unfolding count_of next_of
loop-k-preserved c = rw c.u32_at-points.ensures (sizing_on _ _ _ _ _ _ _ c.loop-k.invariant c.loop-k-test.true)

pub returns : goal.returns
returns c = sizing_done _ _ _ _ _ _ _ c.loop-k.invariant c.loop-k-test.false
