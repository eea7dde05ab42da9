-- Whatever is given, any two outcomes that meet the promise of a public function here are equal. Assumes nothing.
use mathlib.Core.Path.{ap, sym, ◌∙◌}
use Rattle.outcome.specs.OneOutcome.{OneOutcome}
use Rattle.tree_build.specs.contracts.build_tree
use Rattle.tree_build.proofs.build_tree.Reads as build_tree_reads

pub one_build_tree : OneOutcome build_tree.ended build_tree_reads.Post
one_build_tree _ _ _ _ _ _ p q = ap (λ o. (o.0, (o.1, o.2))) (sym p ∙ q)
