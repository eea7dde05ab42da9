-- The loop's invariant is `Filling` of Fill.antt.
use Rattle.room.proofs.Fill.{Filling}
use Rattle.room.proofs.fill_from.Given as goal

abbrev pub invariant-loop-i : goal.invariant-loop-i
invariant-loop-i g l = Filling l.x l.initial.out l.at l.out l.i
