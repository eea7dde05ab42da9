-- `stripes_find::stripes_list` meets its contract. Assumes nothing.
use mathlib.Core.Path.{sym, ◌∙◌}
use native.Mathlib.Omega.{arith}
use Rattle.answers.proofs.Refused.{refused}
use Rattle.rings.proofs.Checks.{Accepted, sound_ring}
use Rattle.stripes_find.specs.Listing.{stripes_listed_by}
use Rattle.stripes_find.proofs.stripes_list.Goals as goal
use Rattle.stripes_find.proofs.stripes_list.Goals.{In_ok-check_ring}

sound : (c : In_ok-check_ring) → Accepted c.args.coords.now c.args.points
sound c = sound_ring c.args.coords.now c.args.points (sym c.in_ok-check_ring.ensures)

pub overflow_sub-points : goal.overflow_sub-points
overflow_sub-points c = omega (arith, (sound (goal.at.overflow_sub-points c).In_ok-check_ring).enough)

pub list_sound-requires : goal.list_sound-requires
list_sound-requires c = let s = sound (goal.at.list_sound-requires c).In_ok-check_ring in omega (arith, s.sizes, s.enough)

pub returns-in_err-check_ring : goal.returns-in_err-check_ring
unfolding stripes_listed_by
returns-in_err-check_ring c = rw (refused c.from_residual.result c.from_residual.ensures.1, sym c.in_err-check_ring.ensures)

pub returns-then-is_finite : goal.returns-then-is_finite
unfolding stripes_listed_by
returns-then-is_finite c = rw (sym c.in_ok-check_ring.ensures, sym c.is_finite.ensures ∙ c.if-is_finite.true) c.list_sound.ensures

pub returns-else-is_finite : goal.returns-else-is_finite
unfolding stripes_listed_by
returns-else-is_finite c = rw (sym c.in_ok-check_ring.ensures, sym c.is_finite.ensures ∙ c.if-is_finite.false)
