-- `stripes_test::test_run` meets its contract. The invariant is `Testing`. Assumes nothing.
use Rattle.rings.specs.Ring.{wide}
use Rattle.stripes_test.proofs.Steps.{Testing}
use Rattle.stripes_test.proofs.test_run.Given as goal

abbrev pub invariant-loop-at : goal.invariant-loop-at
invariant-loop-at l = Testing (wide l.ring) l.p l.edge l.n l.list l.start l.past l.seen l.at
