use mathlib.Core.Path.{sym}
use native.Mathlib.Omega.{arith}
use Rattle.answers.proofs.Refused.{refused}
use Rattle.rings.proofs.Checks.{Accepted, sound_ring}
use Rattle.tree_find.specs.Find.{tree_tested_by}
use Rattle.tree_find.proofs.tree_test.Goals as goal
use Rattle.tree_find.proofs.tree_test.Goals.{In_ok-check_ring}

sound : (c : In_ok-check_ring) → Accepted c.args.coords.now c.args.points
sound c = sound_ring c.args.coords.now c.args.points (sym c.in_ok-check_ring.ensures)

pub returns-in_err-check_ring : goal.returns-in_err-check_ring
unfolding tree_tested_by
returns-in_err-check_ring c = rw (refused c.from_residual.result c.from_residual.ensures.1, sym c.in_err-check_ring.ensures)

pub of_ring-requires : goal.of_ring-requires
of_ring-requires c = let s = sound (goal.at.of_ring-requires c).In_ok-check_ring in (omega (arith, s.enough), omega (arith, s.sizes))

pub test_in-requires : goal.test_in-requires
test_in-requires c = let s = sound (goal.at.test_in-requires c).In_ok-check_ring in rw c.of_ring.ensures (omega (arith, s.sizes, s.enough), omega (arith, s.few))

pub returns-then-is_finite : goal.returns-then-is_finite
unfolding tree_tested_by
returns-then-is_finite c = rw (sym c.in_ok-check_ring.ensures, ← c.is_finite.ensures, ← c.is_finite-2.ensures, c.if-is_finite.true) (rw c.of_ring.ensures at c.test_in.ensures)

pub returns : goal.returns
unfolding tree_tested_by
returns c = rw (sym c.in_ok-check_ring.ensures, ← c.is_finite.ensures, ← c.is_finite-2.ensures, c.if-is_finite.false)
