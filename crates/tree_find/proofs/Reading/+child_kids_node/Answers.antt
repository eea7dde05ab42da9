-- `Reading::child`, `kids` and `node`, which call one another, meet their contracts.
use native.Mathlib.Omega.{arith}
use mathlib.Core.Path.{sym, ◌∙◌}
use Rattle.answers.proofs.Refused.{refused}
use Rattle.tree_find.proofs.Ways.{read_within, child_unread, child_none, child_deep, child_past, child_skip, child_visit, kids_done, kids_more, split_missing, split_leaf, split_kids, split_bad, node_step}
use Rattle.tree_find.proofs.Pour.{then_go, then_stop}
use Rattle.tree_find.proofs.Reading.+child_kids_node.Goals as goal

pub child-returns-then-size-eq0 : goal.child-returns-then-size-eq0
child-returns-then-size-eq0 g t c = child_none _ c.args.self _ _ _ _ _ _ _ _ (sym c.in_ok-size.ensures) c.if-size-eq0.true

pub child-returns-then-left-eq0 : goal.child-returns-then-left-eq0
child-returns-then-left-eq0 g t c = child_deep _ c.args.self _ _ _ _ _ _ _ _ (sym c.in_ok-size.ensures) c.if-size-eq0.false c.if-left-eq0.true

pub child-overflow_sub-end : goal.child-overflow_sub-end
child-overflow_sub-end g t c = let w = read_within c.args.self c.args.end c.args.p c.in_ok-size.size c.in_ok-size.from (sym c.in_ok-size.ensures) in omega arith

pub child-returns-then-end-from : goal.child-returns-then-end-from
child-returns-then-end-from g t c = child_past _ c.args.self _ _ _ _ _ _ _ _ (sym c.in_ok-size.ensures) c.if-size-eq0.false c.if-left-eq0.false c.if-end-from.true

pub child-returns-then-meets_height : goal.child-returns-then-meets_height
child-returns-then-meets_height g t c = child_visit _ c.args.self _ _ _ _ _ _ _ _ (sym c.in_ok-size.ensures) c.if-size-eq0.false c.if-left-eq0.false c.if-end-from.false _ c.quad_bounds-inner.ensures _ c.meets_height.ensures c.if-meets_height.true ∙ c.node.ensures

pub child-returns-in_err-size : goal.child-returns-in_err-size
child-returns-in_err-size g t c =
    rw (refused c.from_residual.result c.from_residual.ensures.1)
    (child_unread _ c.args.self _ _ _ _ _ _ _ (sym c.in_err-size.ensures))

pub child-returns : goal.child-returns
child-returns g t c = child_skip _ c.args.self _ _ _ _ _ _ _ _ (sym c.in_ok-size.ensures) c.if-size-eq0.false c.if-left-eq0.false c.if-end-from.false _ c.quad_bounds-inner.ensures _ c.meets_height.ensures c.if-meets_height.false

pub kids-returns-in_err-p : goal.kids-returns-in_err-p
kids-returns-in_err-p g t c =
    rw (refused c.from_residual.result c.from_residual.ensures.1)
    (c.loop-q.invariant ∙ kids_more _ c.args.self _ _ _ _ _ _ c.loop-q-test.true ∙ then_stop _ c.in_err-p.ensures)

pub kids-loop-q-preserved : goal.kids-loop-q-preserved
kids-loop-q-preserved g t c = c.loop-q.invariant ∙ kids_more _ c.args.self _ _ _ _ _ _ c.loop-q-test.true ∙ then_go _ c.in_ok-p.ensures

pub kids-returns : goal.kids-returns
kids-returns g t c = c.loop-q.invariant ∙ rw c.finish.ensures (kids_done _ c.args.self _ _ _ _ _ _ c.loop-q-test.false)

pub node-returns-in_err-p : goal.node-returns-in_err-p
node-returns-in_err-p g t c =
    rw (refused c.from_residual.result c.from_residual.ensures.1)
    (node_step _ c.args.self _ _ _ _ _ ∙ then_stop _ c.in_err-p.ensures)

pub node-returns-then-end-p : goal.node-returns-then-end-p
node-returns-then-end-p g t c = node_step _ c.args.self _ _ _ _ _ ∙ then_go _ c.in_ok-p.ensures ∙ split_missing _ c.args.self _ _ _ _ _ c.if-end-p.true

pub node-returns-then-split-eq0 : goal.node-returns-then-split-eq0
node-returns-then-split-eq0 g t c = node_step _ c.args.self _ _ _ _ _ ∙ then_go _ c.in_ok-p.ensures ∙ rw c.finish.ensures (split_leaf _ c.args.self _ _ _ _ _ c.if-end-p.false c.if-split-eq0.true)

pub node-returns-then-split-eq1 : goal.node-returns-then-split-eq1
node-returns-then-split-eq1 g t c = node_step _ c.args.self _ _ _ _ _ ∙ then_go _ c.in_ok-p.ensures ∙ split_kids _ c.args.self _ _ _ _ _ c.if-end-p.false c.if-split-eq1.true ∙ c.kids.ensures

pub node-returns : goal.node-returns
node-returns g t c = node_step _ c.args.self _ _ _ _ _ ∙ then_go _ c.in_ok-p.ensures ∙ split_bad _ c.args.self _ _ _ _ _ c.if-end-p.false c.if-split-eq0.false c.if-split-eq1.false
