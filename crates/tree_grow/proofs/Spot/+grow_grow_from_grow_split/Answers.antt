-- `tree_grow::grow`, `grow_split` and `grow_from` meet their contracts: the level falls from a node to its quadrants, and the quadrants come one by one.
-- Assumes nothing.
use Rattle.rings.specs.Ring.{wide}
use Rattle.tree_grow.proofs.Records.{grown_deep, grown_few, grown_below}
use Rattle.tree_grow.proofs.Crops.{same_tree, none_grew, sprout_some, full_at_once}
use Rattle.tree_grow.proofs.Splits.{Splits, own_within, own_counted, own_few, shares_fit, quadrants_ask, split_full, split_grew, split_small}
use Rattle.tree_grow.proofs.Quadrants.{from_none, Next, share_within, share_counted, quadrant_asks, from_full, Front, share_in, behind_asks, behind_full, from_grew, sizes_small}
use mathlib.Core.Path.{◌≡◌, ◌∙◌}
use Prim.Native.Nat.{ℕ, ◌-◌}
use lib.ListN.{length}
use borrow.Rule.Slice.PartMut.{same_len_mid}
use native.Mathlib.Omega.{arith}
use Rattle.tree_grow.proofs.Spot.+grow_grow_from_grow_split.Goals as goal
use Rattle.tree_grow.proofs.Spot.+grow_grow_from_grow_split.Goals.{grow-Else-is_empty, grow_from-After-share_of-n, grow_from-In_ok-nodes, grow_split-After-share_out-shares}

some_arrive : (t : ℕ) (c : grow-Else-is_empty t) → length c.args.run.now ≡ 0 → ⊥
some_arrive t c = grind (arith, c.is_empty.ensures, c.if-is_empty.false)

pub grow-returns-then-is_empty : goal.grow-returns-then-is_empty
grow-returns-then-is_empty t c = let e : length c.args.run.now ≡ 0 = grind (arith, c.is_empty.ensures, c.if-is_empty.true) in none_grew _ _ _ _ _ e

pub grow-returns-then-rest-lt6 : goal.grow-returns-then-rest-lt6
grow-returns-then-rest-lt6 t c = full_at_once _ _ _ _ _ _ _ (some_arrive t (goal.at.grow-returns-then-rest-lt6 t c).Else-is_empty) c.if-rest-lt6.true

pub grow-returns-then-self-eq0 : goal.grow-returns-then-self-eq0
grow-returns-then-self-eq0 t c = same_tree (sprout_some _ _ _ _ (some_arrive t (goal.at.grow-returns-then-self-eq0 t c).Else-is_empty) ∙ grown_deep _ _ _ _ c.if-self-eq0.true) c.grow_leaf.ensures

pub grow-returns-then-run-le-Q_MAX_ITEMS : goal.grow-returns-then-run-le-Q_MAX_ITEMS
grow-returns-then-run-le-Q_MAX_ITEMS t c = same_tree (sprout_some _ _ _ _ (some_arrive t (goal.at.grow-returns-then-run-le-Q_MAX_ITEMS t c).Else-is_empty) ∙ grown_few _ _ _ _ c.if-run-le-Q_MAX_ITEMS.true) c.grow_leaf-then-run-le-Q_MAX_ITEMS.ensures

pub grow-returns : goal.grow-returns
grow-returns t c = same_tree (sprout_some _ _ _ _ (some_arrive t (goal.at.grow-returns t c).Else-is_empty) ∙ grown_below _ _ _ _ c.if-self-eq0.false) c.grow_split.ensures

-- what is known once the quadrant's share is
next :
    (t : ℕ) (c : grow_from-After-share_of-n t)
    → Next (length c.args.self.now.ring.now) (wide c.args.self.now.ring.now) c.args.self.now.left c.args.self.now.bounds
    c.args.shares.now c.args.q c.args.run.now
    c.share_of-n.result
next t c =
    record { deep = c.requires.0; last = c.requires.1; more = c.if-q-eq4.false; few = c.requires.2; readable = c.requires.3; shares = c.requires.4; share = c.share_of-n.ensures }

-- and once the quadrant stands
front :
    (t : ℕ) (c : grow_from-In_ok-nodes t)
    → Front (length c.args.self.now.ring.now) (wide c.args.self.now.ring.now)
    c.args.self.now.left
    c.args.self.now.bounds
    c.args.shares.now
    c.args.q
    c.args.run.now
    c.share_of-n.result
    c.args.rest.now
    c.grow.new.run
    c.grow.new.rest c.in_ok-nodes.nodes c.in_ok-nodes.size
front t c =
    record {
      next = record { deep = c.requires.0; last = c.requires.1; more = c.if-q-eq4.false; few = c.requires.2; readable = c.requires.3; shares = c.requires.4; share = c.share_of-n.ensures };
      inner = c.quad_bounds.result;
      inside = c.quad_bounds.ensures;
      long = c.grow.auto.run;
      kept = c.grow.auto.rest;
      stands = c.in_ok-nodes.ensures.out;
    }

pub grow_from-returns-then-q-eq4 : goal.grow_from-returns-then-q-eq4
grow_from-returns-then-q-eq4 t c = from_none _ _ _ _ _ _ _ c.if-q-eq4.true c.requires.4

pub grow_from-slice_bounds-grow-end : goal.grow_from-slice_bounds-grow-end
grow_from-slice_bounds-grow-end t c = share_within (next t (goal.at.grow_from-slice_bounds-grow-end t c).After-share_of-n)

pub grow_from-slice_bounds-grow-end-2 : goal.grow_from-slice_bounds-grow-end-2
grow_from-slice_bounds-grow-end-2 t c = share_counted (next t (goal.at.grow_from-slice_bounds-grow-end-2 t c).After-share_of-n)

pub grow_from-grow-requires : goal.grow_from-grow-requires
grow_from-grow-requires t c = (omega (arith, c.decreases, c.requires.1), quadrant_asks (next t (goal.at.grow_from-grow-requires t c).After-share_of-n))

pub grow_from-offset_bounds-run-n : goal.grow_from-offset_bounds-run-n
grow_from-offset_bounds-run-n t c = omega (arith, share_within (next t (goal.at.grow_from-offset_bounds-run-n t c).After-share_of-n), c.requires.2)

pub grow_from-slice_bounds-grow_from-count : goal.grow_from-slice_bounds-grow_from-count
grow_from-slice_bounds-grow_from-count t c = share_in (front t c)

pub grow_from-slice_bounds-grow_from-start : goal.grow_from-slice_bounds-grow_from-start
grow_from-slice_bounds-grow_from-start t c = share_in (front t c)

pub grow_from-grow_from-requires : goal.grow_from-grow_from-requires
grow_from-grow_from-requires t c = (omega (arith, c.decreases, c.requires.1, c.if-q-eq4.false), behind_asks (front t (goal.at.grow_from-grow_from-requires t c).In_ok-nodes))

pub grow_from-overflow_add-result-2 : goal.grow_from-overflow_add-result-2
grow_from-overflow_add-result-2 t c = omega (arith, sizes_small (front t (goal.at.grow_from-overflow_add-result-2 t c).In_ok-nodes) c.in_ok-more.ensures.out _ c.uvarint_len.ensures)

pub grow_from-overflow_add-result-3 : goal.grow_from-overflow_add-result-3
grow_from-overflow_add-result-3 t c = omega (arith, sizes_small (front t (goal.at.grow_from-overflow_add-result-3 t c).In_ok-nodes) c.in_ok-more.ensures.out _ c.uvarint_len.ensures)

pub grow_from-returns-in_err-nodes : goal.grow_from-returns-in_err-nodes
grow_from-returns-in_err-nodes t c = rw c.from_residual.ensures (from_full (next t (goal.at.grow_from-returns-in_err-nodes t c).After-share_of-n) _ c.quad_bounds.ensures c.in_err-nodes.ensures.out)

pub grow_from-returns-in_err-more : goal.grow_from-returns-in_err-more
grow_from-returns-in_err-more t c = rw c.from_residual-in_err-more.ensures (behind_full (front t (goal.at.grow_from-returns-in_err-more t c).In_ok-nodes) c.in_err-more.ensures.out)

pub grow_from-returns : goal.grow_from-returns
grow_from-returns t c = from_grew (front t (goal.at.grow_from-returns t c).In_ok-nodes) c.in_ok-more.ensures.out _ c.uvarint_len.ensures

-- what is known once the segments are shared out
splits :
    (t : ℕ) (c : grow_split-After-share_out-shares t)
    → Splits (length c.args.self.now.ring.now) (wide c.args.self.now.ring.now) c.args.self.now.left c.args.self.now.bounds
    c.args.run.now c.share_out-shares.result c.share_out-shares.new.run c.args.rest.now
splits t c =
    record { shared = c.share_out-shares.ensures; deep = c.requires.0; many = c.requires.1; few = c.requires.2; readable = c.requires.3; room = c.requires.4 }

pub grow_split-slice_bounds-own_size-end : goal.grow_split-slice_bounds-own_size-end
grow_split-slice_bounds-own_size-end t c = own_within (splits t (goal.at.grow_split-slice_bounds-own_size-end t c).After-share_out-shares)

pub grow_split-slice_bounds-own_size-end-2 : goal.grow_split-slice_bounds-own_size-end-2
grow_split-slice_bounds-own_size-end-2 t c = own_counted (splits t (goal.at.grow_split-slice_bounds-own_size-end-2 t c).After-share_out-shares)

pub grow_split-offset_bounds-run-own : goal.grow_split-offset_bounds-run-own
grow_split-offset_bounds-run-own t c = omega (arith, own_few (splits t (goal.at.grow_split-offset_bounds-run-own t c).After-share_out-shares))

pub grow_split-slice_bounds-grow_from-count : goal.grow_split-slice_bounds-grow_from-count
grow_split-slice_bounds-grow_from-count t c = own_within (splits t (goal.at.grow_split-slice_bounds-grow_from-count t c).After-share_out-shares)

pub grow_split-slice_bounds-grow_from-start : goal.grow_split-slice_bounds-grow_from-start
grow_split-slice_bounds-grow_from-start t c = own_within (splits t (goal.at.grow_split-slice_bounds-grow_from-start t c).After-share_out-shares)

pub grow_split-grow_from-requires : goal.grow_split-grow_from-requires
grow_split-grow_from-requires t c = (omega (arith, c.decreases), quadrants_ask (splits t (goal.at.grow_split-grow_from-requires t c).After-share_out-shares))

pub grow_split-overflow_add-bytes-2 : goal.grow_split-overflow_add-bytes-2
grow_split-overflow_add-bytes-2 t c = omega (arith, split_small (splits t (goal.at.grow_split-overflow_add-bytes-2 t c).After-share_out-shares) _ c.own_size-bytes.ensures.0 c.in_ok-nodes.ensures.out)

pub grow_split-write_record-requires : goal.grow_split-write_record-requires
grow_split-write_record-requires t c = let l = c.args.rest.now in record { in_bounds = (omega (arith, c.requires.4, same_len_mid 6 (length l - 6) l c.grow_from.new.rest c.grow_from.auto.rest), split_small (splits t (goal.at.grow_split-write_record-requires t c).After-share_out-shares) _ c.own_size-bytes.ensures.0 c.in_ok-nodes.ensures.out); own_bound = shares_fit (splits t (goal.at.grow_split-write_record-requires t c).After-share_out-shares) }

pub grow_split-overflow_add-result-2 : goal.grow_split-overflow_add-result-2
grow_split-overflow_add-result-2 t c = omega (arith, split_small (splits t (goal.at.grow_split-overflow_add-result-2 t c).After-share_out-shares) _ c.own_size-bytes.ensures.0 c.in_ok-nodes.ensures.out)

pub grow_split-returns-in_err-nodes : goal.grow_split-returns-in_err-nodes
grow_split-returns-in_err-nodes t c = rw c.from_residual.ensures (split_full (splits t (goal.at.grow_split-returns-in_err-nodes t c).After-share_out-shares) c.in_err-nodes.ensures.out)

pub grow_split-returns : goal.grow_split-returns
grow_split-returns t c = split_grew (splits t (goal.at.grow_split-returns t c).After-share_out-shares) _ c.own_size-bytes.ensures.0 c.in_ok-nodes.ensures.out c.write_record.ensures
