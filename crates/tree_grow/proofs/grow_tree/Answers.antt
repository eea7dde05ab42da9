-- `tree_grow::grow_tree` meets its contract. Assumes nothing.
use Rattle.tree.specs.Tree.{max_depth}
use Rattle.rings.specs.Ring.{wide}
use Rattle.tree_grow.proofs.Crops.{tree_stood, tree_full}
use Rattle.tree_grow.proofs.grow_tree.Goals as goal

pub returns-in_err-nodes : goal.returns-in_err-nodes
returns-in_err-nodes c =
    rw c.from_residual.ensures
    (tree_full (wide c.args.ring.now) max_depth c.args.bounds c.args.run.now c.requires.0 c.args.rest.now c.in_err-nodes.ensures.out)

pub returns : goal.returns
returns c = tree_stood (wide c.args.ring.now) max_depth c.args.bounds c.args.run.now c.requires.0 c.in_ok-nodes.ensures.out
