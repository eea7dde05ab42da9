-- `cast_test::scan_in` meets its contract. The invariant: what is seen and the segments to come make the answer, and nothing was "on". Assumes nothing.
use Rattle.std.specs.declared.ops.ControlFlow.TheVariants.{Continue}
use Rattle.rings.specs.Ring.{wide}
use Rattle.cast_test.proofs.Scan.{Scanning}
use Rattle.cast_test.proofs.scan_in.Given as goal

abbrev pub invariant-loop-i : goal.invariant-loop-i
invariant-loop-i l = Scanning (wide l.ring) l.n l.p l.edge (Continue l.inside) l.i
