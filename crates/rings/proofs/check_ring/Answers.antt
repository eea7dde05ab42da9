-- Each refusal by the tests before it.
use mathlib.Core.Path.{sym, ◌∙◌}
use borrow.Author.Tests.{lt-ltb, le-ltb, eq-eqb, ne_eqb}
use Rattle.rings.specs.Checks.{ring_checked}
use Rattle.rings.proofs.check_ring.Goals as goal

pub returns-then-points-lt-MIN_POINTS : goal.returns-then-points-lt-MIN_POINTS
unfolding ring_checked
returns-then-points-lt-MIN_POINTS c = rw (lt-ltb _ _ c.if-points-lt-MIN_POINTS.true)

pub returns-then-points-gt-MAX_POINTS : goal.returns-then-points-gt-MAX_POINTS
unfolding ring_checked
returns-then-points-gt-MAX_POINTS c = rw (le-ltb _ _ c.if-points-lt-MIN_POINTS.false, lt-ltb _ _ c.if-points-gt-MAX_POINTS.true)

pub returns-then-points-coords : goal.returns-then-points-coords
unfolding ring_checked
returns-then-points-coords c = rw (le-ltb _ _ c.if-points-lt-MIN_POINTS.false, le-ltb _ _ c.if-points-gt-MAX_POINTS.false, ne_eqb _ _ c.if-points-coords.true)

pub returns-then-is_closed : goal.returns-then-is_closed
unfolding ring_checked
returns-then-is_closed c =
    let b = c in
    rw (le-ltb _ _ b.if-points-lt-MIN_POINTS.false, le-ltb _ _ b.if-points-gt-MAX_POINTS.false, eq-eqb _ _ b.if-points-coords.false, sym c.is_closed.ensures ∙ c.if-is_closed.true)

pub returns-else-is_closed : goal.returns-else-is_closed
unfolding ring_checked
returns-else-is_closed c =
    let b = c in
    rw (le-ltb _ _ b.if-points-lt-MIN_POINTS.false, le-ltb _ _ b.if-points-gt-MAX_POINTS.false, eq-eqb _ _ b.if-points-coords.false, sym c.is_closed.ensures ∙ c.if-is_closed.false)
