-- `tree_pack::put_own` meets its contract. Assumes nothing.
use Rattle.tree_pack.proofs.Own.{Putting}
use Rattle.tree_pack.proofs.put_own.Given as goal

abbrev pub invariant-loop-x : goal.invariant-loop-x
invariant-loop-x l = Putting l.own l.initial.out l.initial.p l.out l.p l.last l.x-index
