-- `outline_ask::inside` meets its contract. Assumes nothing.
use mathlib.Core.Path.{refl, sym, ◌∙◌}
use borrow.Author.Rules.{rules}
use mir.Syntax.{w64}
use mir.Val.{SFits}
use mir.Facts.{to_z-of_z}
use Rattle.answers.proofs.Refused.{refused}
use Rattle.outline_ring.specs.RingIndex.{lent_in}
use Rattle.outline_ask.specs.declared.Query.TheVariants.{Outside}
use Rattle.outline_ask.proofs.Ready.{fits_is, counted, inside_faulty, inside_asked}
use Rattle.outline_ask.proofs.inside.Goals as goal

pub returns-in_err-check_outline_with : goal.returns-in_err-check_outline_with
returns-in_err-check_outline_with c =
    let a = c.args in
    refused c.from_residual.result c.from_residual.ensures.1
    ∙ inside_faulty a.outline a.sizes.now a.coords.now a.boxes.now (lent_in a.lent) a.p a.edge _ (fits_is a.sizes.now a.boxes.now) _ (sym c.in_err-check_outline_with.ensures)

pub invariant_of-sound : goal.invariant_of-sound
invariant_of-sound c = let a = c.args in record { counted = counted _ a.outline a.sizes.now a.coords.now (sym c.in_ok-check_outline_with.ensures) }

pub invariant_of-sound-in-Grid : goal.invariant_of-sound-in-Grid
invariant_of-sound-in-Grid c = let a = c.args in record { counted = counted _ a.outline a.sizes.now a.coords.now (sym c.in_ok-check_outline_with.ensures) }

pub returns-in-Outside : goal.returns-in-Outside
returns-in-Outside c =
    let a = c.args in
    inside_asked a.outline a.sizes.now a.coords.now a.boxes.now (lent_in a.lent) a.p a.edge _ (fits_is a.sizes.now a.boxes.now) Outside _
    (sym c.in_ok-check_outline_with.ensures) c.in-Outside.ensures refl

pub returns-in-Float : goal.returns-in-Float
returns-in-Float c =
    let a = c.args in
    inside_asked a.outline a.sizes.now a.coords.now a.boxes.now (lent_in a.lent) a.p a.edge _ (fits_is a.sizes.now a.boxes.now) _ _
    (sym c.in_ok-check_outline_with.ensures) c.in-Float.ensures c.ask_all.ensures

pub returns-in-Grid : goal.returns-in-Grid
returns-in-Grid c =
    let fx : SFits w64 c.in-Grid.x = search rules in
    let fy : SFits w64 c.in-Grid.y = search rules in
    let a = c.args in
    inside_asked a.outline a.sizes.now a.coords.now a.boxes.now (lent_in a.lent) a.p a.edge _ (fits_is a.sizes.now a.boxes.now) _ _
    (sym c.in_ok-check_outline_with.ensures) c.in-Grid.ensures (rw (to_z-of_z fx, to_z-of_z fy) at c.ask_all-in-Grid.ensures)
