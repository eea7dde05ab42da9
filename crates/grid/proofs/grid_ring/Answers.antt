use mathlib.Core.Path.{sym, ap}
use native.Mathlib.Omega.{arith}
use mir.Facts.{to_z-of_z}
use Rattle.answers.specs.Answers.{said}
use Rattle.answers.proofs.Refused.{refused}
use Rattle.rings.proofs.Checks.{Accepted, sound_ring}
use Rattle.grid.specs.Rings.{grid_ring}
use Rattle.grid.proofs.grid_ring.Goals as goal
use Rattle.grid.proofs.grid_ring.Goals.{In_ok-check_ring}

sound : (c : In_ok-check_ring) → Accepted c.args.coords.now c.args.points
sound c = sound_ring c.args.coords.now c.args.points (sym c.in_ok-check_ring.ensures)

pub returns-in_err-check_ring : goal.returns-in_err-check_ring
unfolding grid_ring
returns-in_err-check_ring c = rw (refused c.from_residual.result c.from_residual.ensures.1, sym c.in_err-check_ring.ensures)

pub overflow_sub-points : goal.overflow_sub-points
overflow_sub-points c = omega (arith, (sound (goal.at.overflow_sub-points c).In_ok-check_ring).enough)

pub grid_in-requires : goal.grid_in-requires
grid_in-requires c = let s = sound (goal.at.grid_in-requires c).In_ok-check_ring in omega (arith, s.enough, s.sizes)

pub returns : goal.returns
unfolding grid_ring
returns c =
    let f = c.ranges in
    rw (sym c.in_ok-check_ring.ensures) (ap said (rw (to_z-of_z f.px, to_z-of_z f.py) at c.grid_in.ensures))
