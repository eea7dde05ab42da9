-- `stripes_build::build_stripes` meets its contract. Assumes nothing.
use mathlib.Core.Path.{sym}
use native.Mathlib.Omega.{arith}
use Rattle.answers.proofs.Refused.{refused}
use Rattle.rings.proofs.Checks.{Accepted, sound_ring}
use Rattle.stripes_build.specs.Build.{stripes_built_by}
use Rattle.stripes_build.proofs.build_stripes.Goals as goal
use Rattle.stripes_build.proofs.build_stripes.Goals.{In_ok-check_ring}

sound : (c : In_ok-check_ring) → Accepted c.args.coords.now c.args.points
sound c = sound_ring c.args.coords.now c.args.points (sym c.in_ok-check_ring.ensures)

pub overflow_sub-ring : goal.overflow_sub-ring
overflow_sub-ring c = omega (arith, (sound (goal.at.overflow_sub-ring c).In_ok-check_ring).enough)

pub invariant_of-ring : goal.invariant_of-ring
invariant_of-ring c =
    let s = sound (goal.at.invariant_of-ring c).In_ok-check_ring in
    record { checked = (omega (arith, s.sizes, s.enough), omega (arith, s.enough), omega (arith, s.few)) }

pub returns-in_err-check_ring : goal.returns-in_err-check_ring
unfolding stripes_built_by
returns-in_err-check_ring c = rw (refused c.from_residual.result c.from_residual.ensures.1, sym c.in_err-check_ring.ensures)

pub returns : goal.returns
unfolding stripes_built_by
returns c = rw (sym c.in_ok-check_ring.ensures) c.build_sound.ensures
