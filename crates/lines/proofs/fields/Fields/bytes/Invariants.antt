use Rattle.std.proofs.Common.{◌≤◌}
use Rattle.lines.proofs.fields.Fields.bytes.Given as goal

abbrev pub invariant-loop-i : goal.invariant-loop-i
invariant-loop-i l = l.n ≤ l.i
