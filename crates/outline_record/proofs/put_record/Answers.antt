use Rattle.std.specs.Prelude.{Ok, Err}
use Prim.Native.Nat.{◌*◌}
use mathlib.Core.Path.{sym, ap, ◌∙◌}
use mathlib.Core.List.{List}
use lib.ListN.{length}
use lib.IntN.{ℤ}
use Rattle.answers.specs.declared.Refusal.TheVariants.{NoRoom}
use Rattle.outline_record.specs.Record.{boxes_of}
use Rattle.outline_record.proofs.Pad.{recorded_fits, recorded_short, written_padded}
use Rattle.outline_record.proofs.Boxes.{boxes_length}
use Rattle.outline_record.proofs.put_record.Goals as goal

pub returns-then-boxes-used : goal.returns-then-boxes-used
returns-then-boxes-used c =
    let a = c.args in
    recorded_short a.sound.sizes.now a.sound.coords.now a.boxes.now c.if-boxes-used.true
    ∙ ap (λ (o : List ℤ). (Err NoRoom, o)) (sym (c.fill.ensures.after (λ _ e. e)))

pub returns : goal.returns
returns c =
    let a = c.args in
    let n = length a.sound.sizes.now in
    recorded_fits a.sound.sizes.now a.sound.coords.now a.boxes.now c.if-boxes-used.false
    ∙ ap (λ (o : List ℤ). (Ok n, o))
    (sym
    (c.fill_from.ensures
    ∙ written_padded a.boxes.now _ (boxes_of a.sound.sizes.now a.sound.coords.now) (4 * n) c.put_boxes.ensures
    (boxes_length a.sound.sizes.now a.sound.coords.now n) c.if-boxes-used.false))
