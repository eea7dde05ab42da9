-- Whatever is given, any two outcomes that meet the promise of a public function here are equal. Assumes nothing.
use mathlib.Core.Path.{sym, ◌∙◌}
use Rattle.outcome.specs.OneOutcome.{OneOutcome}
use Rattle.outline_ask.specs.contracts.inside
use Rattle.outline_ask.proofs.inside.Reads as inside_reads

pub one_inside : OneOutcome inside.ended inside_reads.Post
one_inside _ _ _ _ _ _ p q = p ∙ sym q
