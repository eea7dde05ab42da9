-- Whatever is given, any two outcomes that meet the promise of a public function here are equal. Assumes nothing.
use mathlib.Core.Path.{sym, ◌∙◌}
use Rattle.outcome.specs.OneOutcome.{OneOutcome}
use Rattle.stripes_find.specs.contracts.is_outside
use Rattle.stripes_find.proofs.is_outside.Reads as is_outside_reads
use Rattle.stripes_find.specs.contracts.stripe_part
use Rattle.stripes_find.proofs.stripe_part.Reads as stripe_part_reads
use Rattle.stripes_find.specs.contracts.StripeIndex.is_outside as index_is_outside
use Rattle.stripes_find.proofs.StripeIndex.is_outside.Reads as index_is_outside_reads
use Rattle.stripes_find.specs.contracts.StripeIndex.part as index_part
use Rattle.stripes_find.proofs.StripeIndex.part.Reads as index_part_reads
use Rattle.stripes_find.specs.contracts.stripes_list
use Rattle.stripes_find.proofs.stripes_list.Reads as stripes_list_reads

pub one_is_outside : OneOutcome is_outside.ended is_outside_reads.Post
one_is_outside _ _ _ _ _ _ p q = p ∙ sym q

pub one_stripe_part : OneOutcome stripe_part.ended stripe_part_reads.Post
one_stripe_part _ _ _ _ _ _ p q = p ∙ sym q

pub one_index_is_outside : OneOutcome index_is_outside.ended index_is_outside_reads.Post
one_index_is_outside _ _ _ _ _ _ p q = p ∙ sym q

pub one_index_part : OneOutcome index_part.ended index_part_reads.Post
one_index_part _ _ _ _ _ _ p q = p ∙ sym q

pub one_stripes_list : OneOutcome stripes_list.ended stripes_list_reads.Post
one_stripes_list _ _ _ _ _ _ p q = sym p ∙ q
