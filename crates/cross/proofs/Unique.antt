-- Whatever is given, any two outcomes that meet the promise of a public function here are equal. Assumes nothing.
use mathlib.Core.Path.{sym, ◌∙◌}
use Rattle.outcome.specs.OneOutcome.{OneOutcome}
use Rattle.cross.specs.contracts.cross_sign
use Rattle.cross.proofs.cross_sign.Reads as cross_sign_reads

pub one_cross_sign : OneOutcome cross_sign.ended cross_sign_reads.Post
one_cross_sign _ _ _ _ _ _ p q = p ∙ sym q
