-- Whatever is given, any two outcomes that meet the promise of a public function here are equal. Assumes nothing.
use mathlib.Core.Path.{sym, ◌∙◌}
use Rattle.outcome.specs.OneOutcome.{OneOutcome}
use Rattle.outline_plain.specs.contracts.inside_plain
use Rattle.outline_plain.proofs.inside_plain.Reads as inside_plain_reads

pub one_inside_plain : OneOutcome inside_plain.ended inside_plain_reads.Post
one_inside_plain _ _ _ _ _ _ p q = p ∙ sym q
