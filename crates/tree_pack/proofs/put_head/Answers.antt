-- `tree_pack::put_head` meets its contract. Assumes nothing.
use Rattle.tree_pack.proofs.Own.{head_written}
use Rattle.tree_pack.proofs.put_head.Goals as goal

pub returns : goal.returns
returns c =
    head_written _ _ _ _ _ _ c.put_own-p.ensures.1 c.put_own-p.ensures.0
