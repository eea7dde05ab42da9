-- Whatever is given, any two outcomes that meet the promise of a public function here are equal. Assumes nothing.
use mathlib.Core.Path.{sym, ◌∙◌}
use Rattle.outcome.specs.OneOutcome.{OneOutcome}
use Rattle.wkb_shape.specs.contracts.WkbRefusal.number
use Rattle.wkb_shape.proofs.WkbRefusal.number.Reads as number_reads
use Rattle.wkb_shape.specs.contracts.WkbRefusal.place
use Rattle.wkb_shape.proofs.WkbRefusal.place.Reads as place_reads
use Rattle.wkb_shape.specs.contracts.shape
use Rattle.wkb_shape.proofs.shape.Reads as shape_reads

pub one_number : OneOutcome number.ended number_reads.Post
one_number _ _ _ _ _ _ p q = p ∙ sym q

pub one_place : OneOutcome place.ended place_reads.Post
one_place _ _ _ _ _ _ p q = p ∙ sym q

pub one_shape : OneOutcome shape.ended shape_reads.Post
one_shape _ _ _ _ _ _ p q = p ∙ sym q
