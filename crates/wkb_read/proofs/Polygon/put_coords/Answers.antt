use native.Mathlib.Omega.{arith}
use Rattle.wkb_shape.specs.Inner.Laid.{count_of, next_of}
use Rattle.wkb_read.proofs.Walk.{count_there, points_there}
use Rattle.wkb_read.proofs.Put.{laying, ring_ok, ring_room, laying_on, laying_done}
use Rattle.wkb_read.proofs.Polygon.put_coords.Goals as goal

pub loop-k-init : goal.loop-k-init
loop-k-init c = let p = c.requires in laying _ _ _ _ _ c.args.self.ends p.0 p.1

pub u32_at-points-requires : goal.u32_at-points-requires
u32_at-points-requires c = count_there _ _ _ _ _ c.loop-k.invariant.on c.loop-k-test.true

pub overflow_add-at : goal.overflow_add-at
unfolding count_of
overflow_add-at c = omega (arith, points_there _ _ _ _ _ c.loop-k.invariant.on c.loop-k-test.true)

pub put_ring-requires : goal.put_ring-requires
unfolding count_of
put_ring-requires c =
    let l = c.loop-k in
    let h = c.loop-k-test.true in
    rw c.u32_at-points.ensures
    (points_there _ _ _ _ _ l.invariant.on h, ring_room _ _ _ _ _ _ _ _ _ l.invariant h, ring_ok _ _ _ _ _ _ _ _ _ l.invariant h)

pub overflow_add-at-in-loop-k : goal.overflow_add-at-in-loop-k
unfolding count_of
overflow_add-at-in-loop-k c = omega (arith, points_there _ _ _ _ _ c.loop-k.invariant.on c.loop-k-test.true, c.u32_at-points.ensures)

pub overflow_add-at-in-loop-k-2 : goal.overflow_add-at-in-loop-k-2
unfolding count_of
overflow_add-at-in-loop-k-2 c = omega (arith, points_there _ _ _ _ _ c.loop-k.invariant.on c.loop-k-test.true, c.u32_at-points.ensures)

pub loop-k-preserved : goal.loop-k-preserved
unfolding count_of next_of
loop-k-preserved c =
    rw c.u32_at-points.ensures
    (laying_on _ _ _ _ _ _ _ _ _ c.loop-k.invariant c.loop-k-test.true _ (rw c.u32_at-points.ensures at c.put_ring.ensures))

pub returns : goal.returns
returns c = laying_done _ _ _ _ _ _ _ _ _ c.loop-k.invariant c.loop-k-test.false
