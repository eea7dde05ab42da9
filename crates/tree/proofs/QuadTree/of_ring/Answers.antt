-- `tree::QuadTree::of_ring` meets its contract: the picks of the lesser are the least, and those of the greater the greatest.
use Rattle.std.proofs.Common.{rules, add-zero}
use Rattle.floats.specs.Values.{lesser_of, greater_of}
use Rattle.tree.specs.Tree.{ring_box}
use Rattle.tree.proofs.Extremes.{picked_least, picked_greatest}
use Rattle.tree.proofs.QuadTree.of_ring.Goals as goal

pub returns : goal.returns
unfolding ring_box
returns c =
    let x0 = c.pick_of.ensures lesser_of (λ a b r h. search rules) in
    let y0 = c.pick_of-2.ensures lesser_of (λ a b r h. search rules) in
    let x1 = c.pick_of-3.ensures greater_of (λ a b r h. search rules) in
    let y1 = c.pick_of-4.ensures greater_of (λ a b r h. search rules) in
    simp (x0, y0, x1, y1, picked_least, picked_greatest, add-zero)
