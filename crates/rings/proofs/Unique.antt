-- Whatever is given, any two outcomes that meet the promise of a public function here are equal. Assumes nothing.
use mathlib.Core.Path.{sym, ◌∙◌}
use Rattle.outcome.specs.OneOutcome.{OneOutcome}
use Rattle.rings.specs.contracts.check_ring
use Rattle.rings.proofs.check_ring.Reads as check_ring_reads
use Rattle.rings.specs.contracts.scan
use Rattle.rings.proofs.scan.Reads as scan_reads

pub one_check_ring : OneOutcome check_ring.ended check_ring_reads.Post
one_check_ring _ _ _ _ _ _ p q = p ∙ sym q

pub one_scan : OneOutcome scan.ended scan_reads.Post
one_scan _ _ _ _ _ _ p q = sym p ∙ q
