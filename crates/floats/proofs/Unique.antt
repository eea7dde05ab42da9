-- Whatever is given, any two outcomes that meet the promise of a public function here are equal. Assumes nothing.
use mathlib.Core.Path.{sym, ◌∙◌}
use lib.Ieee.{binary64}
use Rattle.outcome.specs.OneOutcome.{OneOutcome}
use Rattle.floats.proofs.NextUp.{next_up_only}
use Rattle.floats.specs.contracts.next_up
use Rattle.floats.proofs.next_up.Reads as next_up_reads
use Rattle.floats.specs.contracts.is_finite
use Rattle.floats.proofs.is_finite.Reads as is_finite_reads
use Rattle.floats.specs.contracts.abs
use Rattle.floats.proofs.abs.Reads as abs_reads
use Rattle.floats.specs.contracts.lesser
use Rattle.floats.proofs.lesser.Reads as lesser_reads
use Rattle.floats.specs.contracts.greater
use Rattle.floats.proofs.greater.Reads as greater_reads

pub one_next_up : OneOutcome next_up.ended next_up_reads.Post
one_next_up _ a z z' _ _ p q = next_up_only binary64 a.0 z z' p.0 q.0

pub one_is_finite : OneOutcome is_finite.ended is_finite_reads.Post
one_is_finite _ _ _ _ _ _ p q = p ∙ sym q

pub one_abs : OneOutcome abs.ended abs_reads.Post
one_abs _ _ _ _ _ _ p q = p ∙ sym q

pub one_lesser : OneOutcome lesser.ended lesser_reads.Post
one_lesser _ _ _ _ _ _ p q = p ∙ sym q

pub one_greater : OneOutcome greater.ended greater_reads.Post
one_greater _ _ _ _ _ _ p q = p ∙ sym q
