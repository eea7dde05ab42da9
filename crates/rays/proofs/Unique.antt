-- Whatever is given, any two outcomes that meet the promise of a public function here are equal. Assumes nothing.
use Rattle.outcome.specs.OneOutcome.{OneOutcome}
use Rattle.rays.proofs.Rest.{raycast_unique}
use Rattle.rays.specs.contracts.cast
use Rattle.rays.proofs.cast.Reads as cast_reads
use Rattle.rays.specs.contracts.raycast
use Rattle.rays.proofs.raycast.Reads as raycast_reads

pub one_cast : OneOutcome cast.ended cast_reads.Post
one_cast _ _ _ _ _ _ p q = raycast_unique p.0 q.0

pub one_raycast : OneOutcome raycast.ended raycast_reads.Post
one_raycast _ _ _ _ _ _ p q = raycast_unique p.0 q.0
