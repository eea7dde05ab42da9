-- Whatever is given, any two outcomes that meet the promise of a public function here are equal. Assumes nothing.
use mathlib.Core.Path.{ap, sym, ◌∙◌}
use Rattle.outcome.specs.OneOutcome.{OneOutcome}
use Rattle.outline_build.specs.contracts.build_indexes
use Rattle.outline_build.proofs.build_indexes.Reads as build_indexes_reads
use Rattle.outline_build.specs.contracts.index_stats
use Rattle.outline_build.proofs.index_stats.Reads as index_stats_reads

pub one_build_indexes : OneOutcome build_indexes.ended build_indexes_reads.Post
one_build_indexes _ _ _ _ _ _ p q = ap (λ o. (o.0, (o.1, (o.2, (o.3, (o.4, (o.5, o.6))))))) (sym p ∙ q)

pub one_index_stats : OneOutcome index_stats.ended index_stats_reads.Post
one_index_stats _ _ _ _ _ _ p q = p ∙ sym q
