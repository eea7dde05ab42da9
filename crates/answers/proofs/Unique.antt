-- Whatever is given, any two outcomes that meet the promise of a public function here are equal. Assumes nothing.
use mathlib.Core.Path.{sym, ◌∙◌}
use Rattle.outcome.specs.OneOutcome.{OneOutcome}
use Rattle.answers.specs.contracts.Refusal.number
use Rattle.answers.proofs.Refusal.number.Reads as number_reads
use Rattle.answers.specs.contracts.Refusal.place
use Rattle.answers.proofs.Refusal.place.Reads as place_reads
use Rattle.answers.specs.contracts.Refusal.zeroes_rooms
use Rattle.answers.proofs.Refusal.zeroes_rooms.Reads as zeroes_rooms_reads

pub one_number : OneOutcome number.ended number_reads.Post
one_number _ _ _ _ _ _ p q = p ∙ sym q

pub one_place : OneOutcome place.ended place_reads.Post
one_place _ _ _ _ _ _ p q = p ∙ sym q

pub one_zeroes_rooms : OneOutcome zeroes_rooms.ended zeroes_rooms_reads.Post
one_zeroes_rooms _ _ _ _ _ _ p q = p ∙ sym q
