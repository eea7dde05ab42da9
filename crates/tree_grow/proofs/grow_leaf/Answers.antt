-- `tree_grow::grow_leaf` meets its contract. Assumes nothing.
use Rattle.tree_grow.proofs.Crops.{leaf_grew}
use Rattle.tree_grow.proofs.grow_leaf.Goals as goal

pub returns : goal.returns
returns c =
    let o = c.own_size-size in
    leaf_grew c.args.run.now c.args.rest.now _ o.result c.requires.1 o.ensures.0 c.write_record.ensures
