-- Whatever is given, any two outcomes that meet the promise of a public function here are equal. Assumes nothing.
use mathlib.Core.Path.{sym, ◌∙◌}
use Rattle.outcome.specs.OneOutcome.{OneOutcome}
use Rattle.turn.specs.contracts.Turning.number
use Rattle.turn.proofs.Turning.number.Reads as number_reads
use Rattle.turn.specs.contracts.turn
use Rattle.turn.proofs.turn.Reads as turn_reads

pub one_number : OneOutcome number.ended number_reads.Post
one_number _ _ _ _ _ _ p q = p ∙ sym q

pub one_turn : OneOutcome turn.ended turn_reads.Post
one_turn _ _ _ _ _ _ p q = p ∙ sym q
