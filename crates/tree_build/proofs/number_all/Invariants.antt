-- `tree_build::number_all` meets its contract. Assumes nothing.
use Rattle.tree_build.proofs.Building.{Numbering}
use Rattle.tree_build.proofs.number_all.Given as goal

abbrev pub invariant-loop-i : goal.invariant-loop-i
invariant-loop-i l = Numbering l.fn.run l.run l.i
