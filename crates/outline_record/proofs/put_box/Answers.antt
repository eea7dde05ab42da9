use Rattle.std.proofs.Common.{◌∙◌, rules}
use Rattle.std.specs.Int.{int_min, int_max}
use Rattle.outline_record.proofs.Extremes.{picked_least, picked_greatest}
use Rattle.outline_record.proofs.Boxes.{box_written}
use Rattle.outline_record.proofs.put_box.Goals as goal

pub returns : goal.returns
returns c =
    let a = c.args in
    box_written a.out.now a.ring.now a.at a.points
    (search rules ∙ c.pick_of.ensures int_min (λ a b r h. search rules) ∙ picked_least _ _)
    (search rules ∙ c.pick_of-2.ensures int_min (λ a b r h. search rules) ∙ picked_least _ _)
    (search rules ∙ c.pick_of-3.ensures int_max (λ a b r h. search rules) ∙ picked_greatest _ _)
    (search rules ∙ c.pick_of-4.ensures int_max (λ a b r h. search rules) ∙ picked_greatest _ _)
