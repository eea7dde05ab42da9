use mathlib.Core.Path.{sym, ◌∙◌}
use native.Mathlib.Omega.{arith}
use Rattle.answers.proofs.Refused.{refused}
use Rattle.rings.specs.Ring.{meeting}
use Rattle.rings.specs.Listing.{scanned_by}
use Rattle.rings.proofs.Checks.{Accepted, sound_ring}
use Rattle.rings.proofs.scan.Goals as goal
use Rattle.rings.proofs.scan.Goals.{In_ok-check_ring}

sound : (c : In_ok-check_ring) → Accepted c.args.coords.now c.args.points
sound c = sound_ring c.args.coords.now c.args.points (sym c.in_ok-check_ring.ensures)

pub overflow_sub-points : goal.overflow_sub-points
overflow_sub-points c = omega (arith, (sound (goal.at.overflow_sub-points c).In_ok-check_ring).enough)

pub list-requires : goal.list-requires
list-requires c = let s = sound (goal.at.list-requires c).In_ok-check_ring in omega (arith, s.enough, s.few, s.sizes)

pub returns-then-is_finite : goal.returns-then-is_finite
unfolding scanned_by meeting
returns-then-is_finite c = rw (sym c.in_ok-check_ring.ensures, sym c.is_finite.ensures ∙ c.if-is_finite.true) c.list.ensures

pub returns-else-is_finite : goal.returns-else-is_finite
unfolding scanned_by
returns-else-is_finite c = rw (sym c.in_ok-check_ring.ensures, sym c.is_finite.ensures ∙ c.if-is_finite.false)

pub returns-in_err-check_ring : goal.returns-in_err-check_ring
unfolding scanned_by
returns-in_err-check_ring c = rw (refused c.from_residual.result c.from_residual.ensures.1, sym c.in_err-check_ring.ensures)
