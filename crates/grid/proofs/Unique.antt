-- Whatever is given, any two outcomes that meet the promise of a public function here are equal. Assumes nothing.
use mathlib.Core.Path.{sym, ◌∙◌}
use Rattle.outcome.specs.OneOutcome.{OneOutcome}
use Rattle.grid.specs.contracts.grid_test
use Rattle.grid.proofs.grid_test.Reads as grid_test_reads
use Rattle.grid.specs.contracts.grid_ring
use Rattle.grid.proofs.grid_ring.Reads as grid_ring_reads

pub one_grid_test : OneOutcome grid_test.ended grid_test_reads.Post
one_grid_test _ _ _ _ _ _ p q = p ∙ sym q

pub one_grid_ring : OneOutcome grid_ring.ended grid_ring_reads.Post
one_grid_ring _ _ _ _ _ _ p q = p ∙ sym q
