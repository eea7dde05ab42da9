-- Whatever is given, any two outcomes that meet the promise of a public function here are equal. Assumes nothing.
use lib.Ieee.{binary64}
use Rattle.outcome.specs.OneOutcome.{OneOutcome}
use Rattle.root.proofs.Laws.{square_root_only}
use Rattle.root.specs.contracts.sqrt
use Rattle.root.proofs.sqrt.Reads as sqrt_reads

pub one_sqrt : OneOutcome sqrt.ended sqrt_reads.Post
one_sqrt _ a z z' _ _ p q = square_root_only binary64 a.0 z z' p.0 q.0
