use Rattle.std.proofs.Common.{arith, sym, ap, ◌∙◌, Err}
use Rattle.wkb_shape.specs.Inner.Laid.{count_of, next_of, rings_of}
use Rattle.wkb_shape.proofs.Laid.{rings_length}
use Rattle.wkb_read.proofs.Walk.{along, along_on, going, go_on, go_fault, go_done, count_there, points_there, each_fault, each_none}
use Rattle.wkb_read.proofs.Polygon.each_ring.Goals as goal

pub loop-k-init : goal.loop-k-init
loop-k-init g c = (along _ _ _ c.args.self.ends, λ ok h. going _ _ ok _ c.args.self.ends)

pub u32_at-points-requires : goal.u32_at-points-requires
u32_at-points-requires g c = count_there _ _ _ _ _ c.loop-k.invariant.0 c.loop-k-test.true

pub overflow_add-at : goal.overflow_add-at
overflow_add-at g c = omega (arith, points_there _ _ _ _ _ c.loop-k.invariant.0 c.loop-k-test.true)

pub rule-requires : goal.rule-requires
unfolding count_of
rule-requires g c = c.requires.rules _ _ (rw c.u32_at-points.ensures (points_there _ _ _ _ _ c.loop-k.invariant.0 c.loop-k-test.true))

pub returns-then-not-rule : goal.returns-then-not-rule
unfolding count_of
returns-then-not-rule g c = λ ok told h e.
    let s = c.args.self in
    let there = points_there _ _ _ _ _ c.loop-k.invariant.0 c.loop-k-test.true in
    let broken = sym (h _ _ _ (rw c.u32_at-points.ensures there) c.rule.ensures) ∙ c.if-not-rule.true in
    let lowest = go_fault _ _ ok _ _ _ (c.loop-k.invariant.1 ok h) c.loop-k-test.true (rw c.u32_at-points.ensures at broken) in
    ap Err (e _ _ c.why.ensures)
    ∙ sym (each_fault ok told (rings_of s.bytes.now s.order s.rings 9) c.loop-k.k _ lowest (omega (arith, rings_length s.bytes.now s.order s.rings 9)))

pub overflow_add-at-in-loop-k : goal.overflow_add-at-in-loop-k
overflow_add-at-in-loop-k g c = omega (arith, points_there _ _ _ _ _ c.loop-k.invariant.0 c.loop-k-test.true)

pub overflow_add-at-in-loop-k-2 : goal.overflow_add-at-in-loop-k-2
unfolding count_of
overflow_add-at-in-loop-k-2 g c = omega (arith, points_there _ _ _ _ _ c.loop-k.invariant.0 c.loop-k-test.true, c.u32_at-points.ensures)

pub loop-k-preserved : goal.loop-k-preserved
unfolding count_of next_of
loop-k-preserved g c =
    let there = points_there _ _ _ _ _ c.loop-k.invariant.0 c.loop-k-test.true in
    rw c.u32_at-points.ensures (
      along_on _ _ _ _ _ c.loop-k.invariant.0 c.loop-k-test.true,
      λ ok h. go_on _ _ ok _ _ _ (c.loop-k.invariant.1 ok h) c.loop-k-test.true
          (rw c.u32_at-points.ensures at (sym (h _ _ _ (rw c.u32_at-points.ensures there) c.rule.ensures) ∙ c.if-not-rule.false)),
    )

pub returns : goal.returns
returns g c = λ ok told h e.
    let s = c.args.self in
    sym (each_none ok told (rings_of s.bytes.now s.order s.rings 9) _
    (rings_length s.bytes.now s.order s.rings 9 ∙ go_done _ _ ok _ _ _ (c.loop-k.invariant.1 ok h) c.loop-k-test.false))
