-- Whatever is given, any two outcomes that meet the promise of a public function here are equal. Assumes nothing.
use mathlib.Core.Path.{sym, ◌∙◌}
use Rattle.outcome.specs.OneOutcome.{OneOutcome}
use Rattle.stripes_test.specs.contracts.stripes_test
use Rattle.stripes_test.proofs.stripes_test.Reads as stripes_test_reads

pub one_stripes_test : OneOutcome stripes_test.ended stripes_test_reads.Post
one_stripes_test _ _ _ _ _ _ p q = p ∙ sym q
