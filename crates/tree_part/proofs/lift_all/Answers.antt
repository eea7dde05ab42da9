-- `tree_part::lift_all` meets its contract, by the laws of `Halves`.
use Rattle.tree_part.specs.Inner.Halves.{classes}
use Rattle.tree_part.proofs.Halves.{along, along_room, after_1, after_2, after_3, after_4, all_lifted, all_counted}
use Rattle.tree_part.proofs.lift_all.Goals as goal

pub lift-own-requires : goal.lift-own-requires
unfolding classes
lift-own-requires c = along_room _ _ _ 0 _ (along c.args.run.now) c.requires

pub lift-nw-requires : goal.lift-nw-requires
lift-nw-requires c =
    along_room _ _ _ 1 _ (after_1 c.lift-own.ensures) c.requires

pub lift-ne-requires : goal.lift-ne-requires
lift-ne-requires c =
    along_room _ _ _ 2 _ (after_2 c.lift-own.ensures c.lift-nw.ensures) c.requires

pub lift-sw-requires : goal.lift-sw-requires
lift-sw-requires c =
    along_room _ _ _ 3 _ (after_3 c.lift-own.ensures c.lift-nw.ensures c.lift-ne.ensures) c.requires

pub lift-se-requires : goal.lift-se-requires
lift-se-requires c =
    along_room _ _ _ 4 _ (after_4 c.lift-own.ensures c.lift-nw.ensures c.lift-ne.ensures c.lift-sw.ensures) c.requires

pub returns : goal.returns
returns c =
    record {
      value = all_counted c.lift-own.ensures c.lift-nw.ensures c.lift-ne.ensures c.lift-sw.ensures c.lift-se.ensures;
      run_after = all_lifted c.lift-own.ensures c.lift-nw.ensures c.lift-ne.ensures c.lift-sw.ensures c.lift-se.ensures c.requires;
    }
