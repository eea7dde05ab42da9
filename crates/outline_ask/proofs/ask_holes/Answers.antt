-- `outline_ask::ask_holes` meets its contract. Assumes nothing.
use mathlib.Core.Path.{refl, sym, ap, ◌∙◌}
use native.Mathlib.Omega.{arith}
use Rattle.std.specs.Prelude.{Ok}
use Rattle.answers.proofs.Refused.{refused}
use Rattle.outline_check.proofs.Starts.{start_none, start_more, part_within}
use Rattle.outline_ask.proofs.Rings.{holes_done, hole_holds, hole_refused, hole_passed}
use Rattle.outline_ask.proofs.ask_holes.Goals as goal

pub bounds-sound-0 : goal.bounds-sound-0
bounds-sound-0 g c = omega (arith, c.args.sound.counted.some)

pub overflow_cast-at : goal.overflow_cast-at
overflow_cast-at g c = omega (arith, c.args.sound.counted.small 0 c.args.sound.counted.some)

pub overflow_mul-at : goal.overflow_mul-at
overflow_mul-at g c = omega (arith, c.args.sound.counted.small 0 c.args.sound.counted.some)

pub loop-k-init : goal.loop-k-init
loop-k-init g c = let n = c.args.sound.sizes.now in (omega (arith, start_none n, start_more n 0), refl)

pub ask_ring-requires : goal.ask_ring-requires
ask_ring-requires g c = (c.loop-k-test.true, c.loop-k.invariant.0)

pub returns-in_err-ask_ring : goal.returns-in_err-ask_ring
returns-in_err-ask_ring g c =
    refused c.from_residual.result c.from_residual.ensures.1 ∙ hole_refused _ _ c.loop-k.k c.loop-k-test.true c.loop-k.invariant.1 _ (sym c.in_err-ask_ring.ensures)

pub returns-then-branch : goal.returns-then-branch
returns-then-branch g c = hole_holds _ _ c.loop-k.k c.loop-k-test.true c.loop-k.invariant.1 (sym c.in_ok-ask_ring.ensures ∙ ap Ok c.if-branch.true)

pub overflow_cast-at-in-loop-k : goal.overflow_cast-at-in-loop-k
overflow_cast-at-in-loop-k g c = omega (arith, c.args.sound.counted.small c.loop-k.k c.loop-k-test.true)

pub overflow_mul-at-in-loop-k : goal.overflow_mul-at-in-loop-k
overflow_mul-at-in-loop-k g c = omega (arith, c.args.sound.counted.small c.loop-k.k c.loop-k-test.true)

pub overflow_add-at : goal.overflow_add-at
overflow_add-at g c = omega (arith, part_within c.args.sound.counted c.loop-k.k c.loop-k-test.true, c.loop-k.invariant.0)

pub loop-k-preserved : goal.loop-k-preserved
loop-k-preserved g c = (
  omega (arith, start_more c.args.sound.sizes.now c.loop-k.k, c.loop-k.invariant.0),
  hole_passed _ _ c.loop-k.k c.loop-k-test.true c.loop-k.invariant.1 (sym c.in_ok-ask_ring.ensures ∙ ap Ok c.if-branch.false),
)

pub returns : goal.returns
returns g c = holes_done _ _ c.loop-k.k c.loop-k-test.false c.loop-k.invariant.1
