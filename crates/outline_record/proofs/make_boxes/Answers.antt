use mathlib.Core.Path.{sym, ◌∙◌}
use mathlib.Core.Bool.{true}
use Rattle.outline_check.proofs.Sound.{sound_outline}
use Rattle.outline_record.proofs.make_boxes.Goals as goal

pub invariant_of-sound : goal.invariant_of-sound
invariant_of-sound c =
    let a = c.args in
    record { counted = (sound_outline true a.outline.scale a.sizes.now a.coords.now (sym c.check_outline.ensures ∙ c.in_ok-check_outline.was)).1.shaped.counted }
