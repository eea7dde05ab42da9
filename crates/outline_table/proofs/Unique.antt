-- Whatever is given, any two outcomes that meet the promise of a public function here are equal. Assumes nothing.
use mathlib.Core.Path.{sym, ◌∙◌}
use Rattle.outcome.specs.OneOutcome.{OneOutcome}
use Rattle.outline_table.specs.contracts.Row.number
use Rattle.outline_table.proofs.Row.number.Reads as number_reads

pub one_number : OneOutcome number.ended number_reads.Post
one_number _ _ _ _ _ _ p q = p ∙ sym q
