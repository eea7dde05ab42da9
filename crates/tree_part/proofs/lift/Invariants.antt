-- `tree_part::lift` meets its contract, by the laws of `Halves`.
use Rattle.tree_part.proofs.Halves.{Lifting}
use Rattle.tree_part.proofs.lift.Given as goal

abbrev pub invariant-loop-i : goal.invariant-loop-i
invariant-loop-i l = Lifting l.class l.at l.initial.run l.run l.p l.i
