-- By a law, since the array is too long to be counted out.
use Rattle.std.proofs.Common.{ℕ, sym}
use Rattle.std.proofs.Math.ListN.{length-replicate}
use Rattle.lines.proofs.ask.input.Goals as goal

pub returns : goal.returns
returns c = sym (length-replicate {A = ℕ} 1048576 0)
