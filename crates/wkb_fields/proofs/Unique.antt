-- Whatever is given, any two outcomes that meet the promise of the public function here are equal. Assumes nothing.
use mathlib.Core.Path.{sym, ◌∙◌}
use Rattle.outcome.specs.OneOutcome.{OneOutcome}
use Rattle.wkb_fields.specs.contracts.float_of
use Rattle.wkb_fields.proofs.float_of.Reads as float_of_reads

pub one_float_of : OneOutcome float_of.ended float_of_reads.Post
one_float_of _ _ _ _ _ _ p q = p ∙ sym q
