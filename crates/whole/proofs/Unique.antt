-- Whatever is given, any two outcomes that meet the promise of a public function here are equal. Assumes nothing.
use Rattle.outcome.specs.OneOutcome.{OneOutcome}
use Rattle.whole.proofs.Within.{within_only}
use Rattle.whole.proofs.Floors.{floor_to_only}
use Rattle.whole.proofs.Rounds.{round_to_only}
use Rattle.whole.specs.contracts.floor_within
use Rattle.whole.proofs.floor_within.Reads as floor_within_reads
use Rattle.whole.specs.contracts.floor
use Rattle.whole.proofs.floor.Reads as floor_reads
use Rattle.whole.specs.contracts.round
use Rattle.whole.proofs.round.Reads as round_reads

pub one_floor_within : OneOutcome floor_within.ended floor_within_reads.Post
one_floor_within _ a z z' _ _ p q = within_only a.1.0 a.0 z z' p.0 q.0

pub one_floor : OneOutcome floor.ended floor_reads.Post
one_floor _ a z z' _ _ p q = floor_to_only 63 a.0 z z' p.0 q.0

pub one_round : OneOutcome round.ended round_reads.Post
one_round _ a z z' _ _ p q = round_to_only 63 a.0 z z' p.0 q.0
