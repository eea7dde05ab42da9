use mathlib.Core.Path.{sym, ap}
use native.Mathlib.Omega.{arith}
use borrow.Author.Rules.{rules}
use Rattle.std.specs.Prelude.{Ok}
use Rattle.answers.proofs.Refused.{refused}
use Rattle.rings.proofs.Checks.{Accepted, sound_ring}
use Rattle.turn.specs.Turn.{turned}
use Rattle.turn.specs.Inner.Halves.{plus_of, minus_of}
use Rattle.turn.proofs.Area.{area_is}
use Rattle.turn.proofs.turn.Goals as goal
use Rattle.turn.proofs.turn.Goals.{In_ok-check_ring}

sound : (c : In_ok-check_ring) → Accepted c.args.coords.now c.args.points
sound c = sound_ring c.args.coords.now c.args.points (sym c.in_ok-check_ring.ensures)

pub returns-in_err-check_ring : goal.returns-in_err-check_ring
unfolding turned
returns-in_err-check_ring c = rw (refused c.from_residual.result c.from_residual.ensures.1, sym c.in_err-check_ring.ensures)

pub overflow_sub-n : goal.overflow_sub-n
overflow_sub-n c = omega (arith, (sound (goal.at.overflow_sub-n c).In_ok-check_ring).enough)

pub sum-plus-requires-clause-segments_in_bounds : goal.sum-plus-requires-clause-segments_in_bounds
sum-plus-requires-clause-segments_in_bounds c =
    let s = sound (goal.at.sum-plus-requires-clause-segments_in_bounds c).In_ok-check_ring in omega (arith, s.enough, s.few, s.sizes)

pub sum-minus-requires-clause-segments_in_bounds : goal.sum-minus-requires-clause-segments_in_bounds
sum-minus-requires-clause-segments_in_bounds c =
    let s = sound (goal.at.sum-minus-requires-clause-segments_in_bounds c).In_ok-check_ring in omega (arith, s.enough, s.few, s.sizes)

pub returns : goal.returns
unfolding turned
returns c =
    let a = c.args in
    let area = area_is a.coords.now a.points (sound (goal.at.returns c).In_ok-check_ring).shut in
    let plus = c.sum-plus.ensures.total plus_of (λ s r e. search rules) in
    let minus = c.sum-minus.ensures.total minus_of (λ s r e. search rules) in
    rw (sym c.in_ok-check_ring.ensures, area, ← plus, ← minus) (ap Ok c.tell.ensures)
