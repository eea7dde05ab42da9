-- `tree_pack::kids` and `tree_pack::node`, which call each other, meet their contracts. Assumes nothing.
use Prim.Native.Nat.{ℕ, ◌*◌}
use mathlib.Core.Path.{sym, ap, ◌∙◌}
use native.Mathlib.Omega.{arith}
use lib.ListN.{length, length-drop}
use lib.Seq.{length-take-le}
use Rattle.tree_pack.specs.Inner.Packing.{node_of, NodeStands}
use Rattle.tree_pack.proofs.Packing.{Nothing, Quadrant, Splits, part_from, none_written, nothing, nothing_fits, nothing_stand, nothing_room, nothing_written, quadrant, size_fits, kid_room, past_fits, more_stand, more_room, more_fit, quadrant_written, node_long, node_deepest, node_few, leaf_room, leaf_written, splits, head_room, all_stand, all_room, all_fit, split_written, counts_four}
use Rattle.tree_pack.proofs.Grown.+kids_node.Goals as goal
use Rattle.tree_pack.proofs.Grown.+kids_node.Goals.{kids-Else-n-eq0, kids-Then-n-eq0, node-After-wide-own}

-- a quadrant that segments go to, one that none go to, and a node that splits, as the code has them
some_go : (t : ℕ) (c : kids-Else-n-eq0 t) → Quadrant (node_of c.args.self.left) (NodeStands c.args.self.left) c.args.counts.now c.args.self.run.now c.args.self.rest.now c.wide-n.result
some_go t c = quadrant _ _ _ _ _ _ (λ e. omega (arith, c.in-len1-up.len_at_least)) c.wide-n.ensures c.if-n-eq0.false c.requires.kids_stand

none_go : (t : ℕ) (c : kids-Then-n-eq0 t) → Nothing (node_of c.args.self.left) (NodeStands c.args.self.left) c.args.counts.now c.args.self.run.now c.args.self.rest.now
none_go t c = nothing _ _ _ _ _ _ (λ e. omega (arith, c.in-len1-up.len_at_least)) c.wide-n.ensures c.if-n-eq0.true c.requires.kids_stand

split_here : (t : ℕ) (c : node-After-wide-own t) → Splits c.args.self.left c.args.self.run.now c.args.self.rest.now c.wide-own.result
split_here t c = splits _ _ _ _ c.if-self-eq0.false c.if-self-le-Q_MAX_ITEMS.false c.wide-own.ensures c.requires.node_stands

pub kids-returns-in_default : goal.kids-returns-in_default
kids-returns-in_default t c =
    none_written _ (NodeStands c.args.self.left) _ _ _ _ _ (omega (arith, c.in_default.len_below))

pub kids-write_uvarint-next-requires : goal.kids-write_uvarint-next-requires
kids-write_uvarint-next-requires t c =
    let s = none_go t (goal.at.kids-write_uvarint-next-requires t c).Then-n-eq0 in
    nothing_fits _ _ _ _ _ s c.args.out.now c.args.at c.requires.rest_in_bounds

pub kids-kids-requires : goal.kids-kids-requires
kids-kids-requires t c =
    let s = none_go t (goal.at.kids-kids-requires t c).Then-n-eq0 in (
      omega (arith, c.decreases, ap length (part_from 1 c.args.counts.now), length-drop 1 c.args.counts.now, c.in-len1-up.len_at_least),
      (nothing_stand _ _ _ _ _ s c.args.out.now c.args.at c.requires.rest_in_bounds _ c.write_uvarint-next.ensures.1 _ c.write_uvarint-next.ensures.0 _ (part_from 1 c.args.counts.now), nothing_room _ _ _ _ _ s c.args.out.now c.args.at c.requires.rest_in_bounds _ c.write_uvarint-next.ensures.1 _ c.write_uvarint-next.ensures.0 _ (part_from 1 c.args.counts.now)),
    )

pub kids-returns-then-n-eq0 : goal.kids-returns-then-n-eq0
kids-returns-then-n-eq0 t c =
    let s = none_go t (goal.at.kids-returns-then-n-eq0 t c).Then-n-eq0 in
    nothing_written _ _ _ _ _ s c.args.out.now c.args.at c.requires.rest_in_bounds _ c.write_uvarint-next.ensures.1 _ c.write_uvarint-next.ensures.0 _ (part_from 1 c.args.counts.now) _ _ c.kids.ensures.0 c.kids.ensures.1

pub kids-bounds-self-5 : goal.kids-bounds-self-5
kids-bounds-self-5 t c =
    let q = some_go t (goal.at.kids-bounds-self-5 t c).Else-n-eq0 in
    omega (arith, node_long c.args.self.left _ c.args.self.rest.now q.kid.node)

pub kids-write_uvarint-start-requires : goal.kids-write_uvarint-start-requires
kids-write_uvarint-start-requires t c =
    let q = some_go t (goal.at.kids-write_uvarint-start-requires t c).Else-n-eq0 in
    size_fits _ _ _ _ _ _ q c.args.out.now c.args.at c.requires.rest_in_bounds _ (c.wide-size.ensures ∙ q.kid.size)

pub kids-slice_bounds-first-end : goal.kids-slice_bounds-first-end
kids-slice_bounds-first-end t c =
    let q = some_go t (goal.at.kids-slice_bounds-first-end t c).Else-n-eq0 in
    sym (length-take-le c.wide-n.result c.args.self.run.now q.kid.within)

pub kids-node-nodes-requires : goal.kids-node-nodes-requires
kids-node-nodes-requires t c =
    let q = some_go t (goal.at.kids-node-nodes-requires t c).Else-n-eq0 in
    (omega (arith, c.decreases), (q.kid.node, kid_room _ _ _ _ _ _ q c.args.out.now c.args.at c.requires.rest_in_bounds _ (c.wide-size.ensures ∙ q.kid.size) _ c.write_uvarint-start.ensures.1 _ c.write_uvarint-start.ensures.0))

pub kids-overflow_mul-used : goal.kids-overflow_mul-used
kids-overflow_mul-used t c =
    let q = some_go t (goal.at.kids-overflow_mul-used t c).Else-n-eq0 in
    omega (arith, c.node-nodes.ensures.0, q.kid.fits)

pub kids-slice_bounds-behind-count : goal.kids-slice_bounds-behind-count
kids-slice_bounds-behind-count t c =
    let q = some_go t (goal.at.kids-slice_bounds-behind-count t c).Else-n-eq0 in
    omega (arith, q.kid.within)

pub kids-slice_bounds-behind-start : goal.kids-slice_bounds-behind-start
kids-slice_bounds-behind-start t c =
    let q = some_go t (goal.at.kids-slice_bounds-behind-start t c).Else-n-eq0 in
    omega (arith, q.kid.within)

pub kids-offset_bounds-self-used : goal.kids-offset_bounds-self-used
kids-offset_bounds-self-used t c =
    let q = some_go t (goal.at.kids-offset_bounds-self-used t c).Else-n-eq0 in
    omega (arith, c.node-nodes.ensures.0, q.kid.fits)

pub kids-slice_bounds-behind-count-2 : goal.kids-slice_bounds-behind-count-2
kids-slice_bounds-behind-count-2 t c =
    let q = some_go t (goal.at.kids-slice_bounds-behind-count-2 t c).Else-n-eq0 in
    omega (arith, c.node-nodes.ensures.0, q.kid.fits)

pub kids-slice_bounds-behind-start-2 : goal.kids-slice_bounds-behind-start-2
kids-slice_bounds-behind-start-2 t c =
    let q = some_go t (goal.at.kids-slice_bounds-behind-start-2 t c).Else-n-eq0 in
    omega (arith, c.node-nodes.ensures.0, q.kid.fits)

pub kids-overflow_add-start : goal.kids-overflow_add-start
kids-overflow_add-start t c =
    let q = some_go t (goal.at.kids-overflow_add-start t c).Else-n-eq0 in
    omega (arith, past_fits _ _ _ _ _ _ q c.args.out.now c.args.at c.requires.rest_in_bounds _ (c.wide-size.ensures ∙ q.kid.size) _ c.write_uvarint-start.ensures.1 _ c.write_uvarint-start.ensures.0 _ c.node-nodes.ensures.0 _ c.node-nodes.ensures.1)

pub kids-kids-requires-2 : goal.kids-kids-requires-2
kids-kids-requires-2 t c =
    let q = some_go t (goal.at.kids-kids-requires-2 t c).Else-n-eq0 in (
      omega (arith, c.decreases, ap length (part_from 1 c.args.counts.now), length-drop 1 c.args.counts.now, c.in-len1-up.len_at_least),
      (more_stand _ _ _ _ _ _ q c.args.out.now c.args.at c.requires.rest_in_bounds _ (c.wide-size.ensures ∙ q.kid.size) _ c.write_uvarint-start.ensures.1 _ c.write_uvarint-start.ensures.0 _ c.node-nodes.ensures.0 _ c.node-nodes.ensures.1 _ _ _ (part_from 1 c.args.counts.now) (part_from c.wide-n.result c.args.self.run.now) (part_from (c.node-nodes.result * 6) c.args.self.rest.now), more_room _ _ _ _ _ _ q c.args.out.now c.args.at c.requires.rest_in_bounds _ (c.wide-size.ensures ∙ q.kid.size) _ c.write_uvarint-start.ensures.1 _ c.write_uvarint-start.ensures.0 _ c.node-nodes.ensures.0 _ c.node-nodes.ensures.1 _ _ _ (part_from 1 c.args.counts.now) (part_from c.wide-n.result c.args.self.run.now) (part_from (c.node-nodes.result * 6) c.args.self.rest.now)),
    )

pub kids-overflow_add-result : goal.kids-overflow_add-result
kids-overflow_add-result t c =
    let q = some_go t (goal.at.kids-overflow_add-result t c).Else-n-eq0 in
    omega (arith, more_fit _ _ _ _ _ _ q c.args.out.now c.args.at c.requires.rest_in_bounds _ (c.wide-size.ensures ∙ q.kid.size) _ c.write_uvarint-start.ensures.1 _ c.write_uvarint-start.ensures.0 _ c.node-nodes.ensures.0 _ c.node-nodes.ensures.1 _ _ _ (part_from 1 c.args.counts.now) (part_from c.wide-n.result c.args.self.run.now) (part_from (c.node-nodes.result * 6) c.args.self.rest.now) _ c.kids-2.ensures.0)

pub kids-returns : goal.kids-returns
kids-returns t c =
    let q = some_go t (goal.at.kids-returns t c).Else-n-eq0 in
    quadrant_written _ _ _ _ _ _ q c.args.out.now c.args.at c.requires.rest_in_bounds _ (c.wide-size.ensures ∙ q.kid.size) _ c.write_uvarint-start.ensures.1 _ c.write_uvarint-start.ensures.0 _ c.node-nodes.ensures.0 _ c.node-nodes.ensures.1 _ _ _ (part_from 1 c.args.counts.now) (part_from c.wide-n.result c.args.self.run.now) (part_from (c.node-nodes.result * 6) c.args.self.rest.now) _ _ c.kids-2.ensures.0 c.kids-2.ensures.1

pub node-put_head-requires : goal.node-put_head-requires
node-put_head-requires t c =
    leaf_room _ _ _ (node_deepest c.args.self.left c.args.self.run.now c.args.self.rest.now c.if-self-eq0.true) c.args.out.now c.args.at c.requires.rest_in_bounds

pub node-returns-then-self-eq0 : goal.node-returns-then-self-eq0
node-returns-then-self-eq0 t c =
    leaf_written _ _ _ (node_deepest c.args.self.left c.args.self.run.now c.args.self.rest.now c.if-self-eq0.true) _ _ _ c.put_head.ensures.1

pub node-put_head-requires-then-self-le-Q_MAX_ITEMS : goal.node-put_head-requires-then-self-le-Q_MAX_ITEMS
node-put_head-requires-then-self-le-Q_MAX_ITEMS t c =
    leaf_room _ _ _ (node_few c.args.self.left c.args.self.run.now c.args.self.rest.now c.if-self-le-Q_MAX_ITEMS.true) c.args.out.now c.args.at c.requires.rest_in_bounds

pub node-returns-then-self-le-Q_MAX_ITEMS : goal.node-returns-then-self-le-Q_MAX_ITEMS
node-returns-then-self-le-Q_MAX_ITEMS t c =
    leaf_written _ _ _ (node_few c.args.self.left c.args.self.run.now c.args.self.rest.now c.if-self-le-Q_MAX_ITEMS.true) _ _ _ c.put_head-then-self-le-Q_MAX_ITEMS.ensures.1

pub node-bounds-self-0 : goal.node-bounds-self-0
node-bounds-self-0 t c =
    omega (arith, node_long c.args.self.left c.args.self.run.now c.args.self.rest.now c.requires.node_stands)

pub node-slice_bounds-put_head-end : goal.node-slice_bounds-put_head-end
node-slice_bounds-put_head-end t c =
    let s = split_here t (goal.at.node-slice_bounds-put_head-end t c).After-wide-own in
    sym (length-take-le c.wide-own.result c.args.self.run.now s.within)

pub node-put_head-next-requires : goal.node-put_head-next-requires
node-put_head-next-requires t c =
    let s = split_here t (goal.at.node-put_head-next-requires t c).After-wide-own in
    head_room _ _ _ _ s c.args.out.now c.args.at c.requires.rest_in_bounds

pub node-slice_bounds-kids-end : goal.node-slice_bounds-kids-end
node-slice_bounds-kids-end t c =
    omega (arith, node_long c.args.self.left c.args.self.run.now c.args.self.rest.now c.requires.node_stands)

pub node-slice_bounds-quadrants-count : goal.node-slice_bounds-quadrants-count
node-slice_bounds-quadrants-count t c =
    let s = split_here t (goal.at.node-slice_bounds-quadrants-count t c).After-wide-own in
    omega (arith, s.within)

pub node-slice_bounds-quadrants-start : goal.node-slice_bounds-quadrants-start
node-slice_bounds-quadrants-start t c =
    let s = split_here t (goal.at.node-slice_bounds-quadrants-start t c).After-wide-own in
    omega (arith, s.within)

pub node-slice_bounds-quadrants-count-2 : goal.node-slice_bounds-quadrants-count-2
node-slice_bounds-quadrants-count-2 t c =
    omega (arith, node_long c.args.self.left c.args.self.run.now c.args.self.rest.now c.requires.node_stands)

pub node-slice_bounds-quadrants-start-2 : goal.node-slice_bounds-quadrants-start-2
node-slice_bounds-quadrants-start-2 t c =
    omega (arith, node_long c.args.self.left c.args.self.run.now c.args.self.rest.now c.requires.node_stands)

pub node-kids-requires : goal.node-kids-requires
node-kids-requires t c =
    let s = split_here t (goal.at.node-kids-requires t c).After-wide-own in
    (omega (arith, c.decreases, counts_four c.args.self.rest.now, c.if-self-eq0.false), (all_stand _ _ _ _ s c.args.out.now c.args.at c.requires.rest_in_bounds _ c.put_head-next.ensures.1 _ c.put_head-next.ensures.0 _ _ (part_from c.wide-own.result c.args.self.run.now) (part_from 6 c.args.self.rest.now), all_room _ _ _ _ s c.args.out.now c.args.at c.requires.rest_in_bounds _ c.put_head-next.ensures.1 _ c.put_head-next.ensures.0 _ _ (part_from c.wide-own.result c.args.self.run.now) (part_from 6 c.args.self.rest.now)))

pub node-overflow_add-result : goal.node-overflow_add-result
node-overflow_add-result t c =
    let s = split_here t (goal.at.node-overflow_add-result t c).After-wide-own in
    omega (arith, all_fit _ _ _ _ s c.args.out.now c.args.at c.requires.rest_in_bounds _ c.put_head-next.ensures.1 _ c.put_head-next.ensures.0 _ _ (part_from c.wide-own.result c.args.self.run.now) (part_from 6 c.args.self.rest.now) _ c.kids.ensures.0)

pub node-returns : goal.node-returns
node-returns t c =
    let s = split_here t (goal.at.node-returns t c).After-wide-own in
    split_written _ _ _ _ s c.args.out.now c.args.at c.requires.rest_in_bounds _ c.put_head-next.ensures.1 _ c.put_head-next.ensures.0 _ _ (part_from c.wide-own.result c.args.self.run.now) (part_from 6 c.args.self.rest.now) _ _ c.kids.ensures.0 c.kids.ensures.1
