-- Whatever is given, any two outcomes that meet the promise of a public function here are equal. Assumes nothing.
use mathlib.Core.Path.{sym, ◌∙◌}
use Rattle.outcome.specs.OneOutcome.{OneOutcome}
use Rattle.cast_test.specs.contracts.scan_test
use Rattle.cast_test.proofs.scan_test.Reads as scan_test_reads

pub one_scan_test : OneOutcome scan_test.ended scan_test_reads.Post
one_scan_test _ _ _ _ _ _ p q = p ∙ sym q
