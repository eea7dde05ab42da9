-- Whatever is given, any two outcomes that meet the promise of a public function here are equal. Assumes nothing.
use Rattle.std.proofs.Common.{sym, ◌∙◌}
use Rattle.outcome.specs.OneOutcome.{OneOutcome}
use Rattle.stripes_place.specs.contracts.stripe_of
use Rattle.stripes_place.proofs.stripe_of.Reads as stripe_of_reads

pub one_stripe_of : OneOutcome stripe_of.ended stripe_of_reads.Post
one_stripe_of _ _ _ _ _ _ p q = p ∙ sym q
