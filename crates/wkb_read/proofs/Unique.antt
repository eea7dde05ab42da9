-- Whatever is given, any two outcomes that meet the promise of the public function here are equal. Assumes nothing.
use mathlib.Core.Path.{ap, sym, ◌∙◌}
use Rattle.outcome.specs.OneOutcome.{OneOutcome}
use Rattle.wkb_read.specs.contracts.read_wkb
use Rattle.wkb_read.proofs.read_wkb.Reads as read_wkb_reads

pub one_read_wkb : OneOutcome read_wkb.ended read_wkb_reads.Post
one_read_wkb _ _ _ _ _ _ p q = ap (λ o. (o.0, (o.1, o.2))) (sym p ∙ q)
