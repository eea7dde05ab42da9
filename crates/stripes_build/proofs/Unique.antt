-- Whatever is given, any two outcomes that meet the promise of a public function here are equal. Assumes nothing.
use mathlib.Core.Path.{ap, sym, ◌∙◌}
use Rattle.outcome.specs.OneOutcome.{OneOutcome}
use Rattle.stripes_build.specs.contracts.build_stripes
use Rattle.stripes_build.proofs.build_stripes.Reads as build_stripes_reads

pub one_build_stripes : OneOutcome build_stripes.ended build_stripes_reads.Post
one_build_stripes _ _ _ _ _ _ p q = ap (λ o. (o.0, (o.1, o.2))) (sym p ∙ q)
