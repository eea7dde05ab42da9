-- Whatever is given, any two outcomes that meet the promise of a public function here are equal. Assumes nothing.
use mathlib.Core.Path.{sym, ◌∙◌}
use Rattle.outcome.specs.OneOutcome.{OneOutcome}
use Rattle.tree_find.specs.contracts.tree_list
use Rattle.tree_find.proofs.tree_list.Reads as tree_list_reads
use Rattle.tree_find.specs.contracts.tree_test
use Rattle.tree_find.proofs.tree_test.Reads as tree_test_reads

pub one_tree_list : OneOutcome tree_list.ended tree_list_reads.Post
one_tree_list _ _ _ _ _ _ p q = sym p ∙ q

pub one_tree_test : OneOutcome tree_test.ended tree_test_reads.Post
one_tree_test _ _ _ _ _ _ p q = p ∙ sym q
