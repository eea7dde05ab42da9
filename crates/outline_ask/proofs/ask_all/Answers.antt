-- `outline_ask::ask_all` meets its contract. Assumes nothing.
use mathlib.Core.Path.{sym, ap, ◌∙◌}
use native.Mathlib.Omega.{arith}
use Rattle.std.specs.Prelude.{Ok}
use Rattle.answers.proofs.Refused.{refused}
use Rattle.outline_check.proofs.Starts.{start_none}
use Rattle.outline_ask.proofs.Rings.{out_of_box, exterior_passes, exterior_refused, exterior_holds}
use Rattle.outline_ask.proofs.ask_all.Goals as goal

pub returns-then-not-in_box : goal.returns-then-not-in_box
returns-then-not-in_box g c = out_of_box _ _ _ _ (sym c.in_box.ensures ∙ c.if-not-in_box.true)

pub ask_ring-requires : goal.ask_ring-requires
ask_ring-requires g c = (c.args.sound.counted.some, omega (arith, start_none c.args.sound.sizes.now))

pub returns-in_err-ask_ring : goal.returns-in_err-ask_ring
returns-in_err-ask_ring g c =
    refused c.from_residual.result c.from_residual.ensures.1 ∙ exterior_refused _ _ _ _ (sym c.in_box.ensures ∙ c.if-not-in_box.false) _ (sym c.in_err-ask_ring.ensures)

pub returns-then-not-branch : goal.returns-then-not-branch
returns-then-not-branch g c = exterior_passes _ _ _ _ (sym c.in_box.ensures ∙ c.if-not-in_box.false) (sym c.in_ok-ask_ring.ensures ∙ ap Ok c.if-not-branch.true)

pub returns : goal.returns
returns g c = exterior_holds _ _ _ _ (sym c.in_box.ensures ∙ c.if-not-in_box.false) _ (sym c.in_ok-ask_ring.ensures ∙ ap Ok c.if-not-branch.false) c.ask_holes.ensures
