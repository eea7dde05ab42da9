-- What is left of the depth falls from a node to its quadrants.
use Prim.Native.Nat.{◌*◌, ◌+◌}
use mathlib.Core.Path.{◌≡◌}
use Rattle.tree_find.specs.Inner.Walks.{pour}
use Rattle.tree_find.specs.Inner.Parts.{ring_of, children_to}
use Rattle.tree_find.proofs.Reading.+child_kids_node.Given as goal

abbrev pub decreases-child : goal.decreases-child
decreases-child g l = l.left * 3

abbrev pub decreases-kids : goal.decreases-kids
decreases-kids g l = l.left * 3 + 1

abbrev pub decreases-node : goal.decreases-node
decreases-node g l = l.left * 3 + 2

abbrev pub invariant-kids-loop-q : goal.invariant-kids-loop-q
invariant-kids-loop-q g l =
    let step = g.V.Visit.step (ring_of l.self) in
    pour step (children_to l.self l.left l.bounds l.end 0 l.at) l.initial.visit ≡ pour step (children_to l.self l.left l.bounds l.end l.q l.p) l.visit
