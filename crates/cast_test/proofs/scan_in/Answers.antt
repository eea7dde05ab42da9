-- `cast_test::scan_in` meets its contract. The invariant: what is seen and the segments to come make the answer, and nothing was "on". Assumes nothing.
use Prim.Native.Nat.{◌+◌}
use mathlib.Core.Path.{sym, ap}
use Rattle.std.specs.declared.ops.ControlFlow.TheVariants.{Continue}
use Rattle.answers.specs.Answers.{said}
use Rattle.cast_test.proofs.Scan.{scanning_start, scanning_more, scanning_on, scanning_done}
use Rattle.cast_test.proofs.scan_in.Goals as goal

pub loop-i-init : goal.loop-i-init
loop-i-init c = scanning_start _ _ _ _

pub loop-i-preserved : goal.loop-i-preserved
loop-i-preserved c =
    let l = c.loop-i in
    rw (c.in-Continue.ensures) (scanning_more _ c.args.n c.args.p c.args.edge (Continue l.inside) l.i c.loop-i-test.true l.invariant)

pub returns-in-Break : goal.returns-in-Break
returns-in-Break c =
    let l = c.loop-i in
    ap said (scanning_on _ _ _ _ _ (l.i + 1) (rw (sym c.in-Break.ensures) at (scanning_more _ c.args.n c.args.p c.args.edge (Continue l.inside) l.i c.loop-i-test.true l.invariant)))

pub returns : goal.returns
returns c = ap said (scanning_done _ _ _ _ c.loop-i.inside c.loop-i.i c.loop-i-test.false c.loop-i.invariant)
