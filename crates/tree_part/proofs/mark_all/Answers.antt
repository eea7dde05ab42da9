-- `tree_part::mark_all` meets its contract.
use mathlib.Core.Path.{◌∙◌}
use Prim.Native.Nat.{◌<◌}
use native.Mathlib.Omega.{arith}
use lib.ListN.{length}
use Rattle.tree_part.proofs.Turned.{turned_next, all_here, all_next}
use Rattle.tree_part.proofs.mark_all.Goals as goal

pub mark-requires : goal.mark-requires
mark-requires c =
    let h : c.loop-x.x-index < length c.loop-x.run = omega arith in
    all_here _ _ _ h c.loop-x.invariant.1

pub loop-x-preserved : goal.loop-x-preserved
loop-x-preserved c =
    let l = c.loop-x in
    let h : l.x-index < length l.run = omega arith in
    (l.invariant.0 ∙ turned_next _ _ _ _ h c.mark.ensures, all_next _ _ _ h l.invariant.1 _)
