-- `stripes_test::stripes_test` meets its contract. Assumes nothing.
use mathlib.Core.Path.{sym}
use native.Mathlib.Omega.{arith}
use Rattle.answers.proofs.Refused.{refused}
use Rattle.rings.proofs.Checks.{Accepted, sound_ring}
use Rattle.stripes_test.specs.Test.{stripes_tested_by}
use Rattle.stripes_test.proofs.stripes_test.Goals as goal
use Rattle.stripes_test.proofs.stripes_test.Goals.{In_ok-check_ring}

sound : (c : In_ok-check_ring) → Accepted c.args.coords.now c.args.points
sound c = sound_ring c.args.coords.now c.args.points (sym c.in_ok-check_ring.ensures)

pub overflow_sub-points : goal.overflow_sub-points
overflow_sub-points c = omega (arith, (sound (goal.at.overflow_sub-points c).In_ok-check_ring).enough)

pub test_in-requires : goal.test_in-requires
test_in-requires c = let s = sound (goal.at.test_in-requires c).In_ok-check_ring in omega (arith, s.sizes, s.enough)

pub returns-in_err-check_ring : goal.returns-in_err-check_ring
unfolding stripes_tested_by
returns-in_err-check_ring c = rw (refused c.from_residual.result c.from_residual.ensures.1, sym c.in_err-check_ring.ensures)

pub returns-then-is_finite : goal.returns-then-is_finite
unfolding stripes_tested_by
returns-then-is_finite c = rw (sym c.in_ok-check_ring.ensures, ← c.is_finite.ensures, ← c.is_finite-2.ensures, c.if-is_finite.true) c.test_in.ensures

pub returns-else-is_finite : goal.returns-else-is_finite
unfolding stripes_tested_by
returns-else-is_finite c = rw (sym c.in_ok-check_ring.ensures, ← c.is_finite.ensures, ← c.is_finite-2.ensures, c.if-is_finite.false)
