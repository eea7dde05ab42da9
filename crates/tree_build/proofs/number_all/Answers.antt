-- `tree_build::number_all` meets its contract. Assumes nothing.
use native.Mathlib.Omega.{arith}
use Rattle.tree_build.proofs.Building.{numbering_more, numbering_done}
use Rattle.tree_build.proofs.number_all.Goals as goal

pub loop-i-preserved : goal.loop-i-preserved
loop-i-preserved c = numbering_more _ _ _ (omega arith) c.loop-i.invariant

pub returns : goal.returns
returns c = numbering_done _ _ _ (omega arith) c.loop-i.invariant
