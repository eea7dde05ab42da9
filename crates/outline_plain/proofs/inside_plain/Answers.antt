use mathlib.Core.Path.{refl, ◌∙◌}
use Rattle.answers.proofs.Refused.{refused}
use Rattle.outline_plain.proofs.Alone.{plain_refused, plain_made}
use Rattle.outline_plain.proofs.inside_plain.Goals as goal

pub returns-in_err-make_boxes : goal.returns-in_err-make_boxes
returns-in_err-make_boxes c =
    refused c.from_residual.result c.from_residual.ensures.1 ∙ plain_refused _ _ _ _ _ _ _ _ c.make_boxes.ensures refl _ c.in_err-make_boxes.was

pub returns : goal.returns
returns c = c.inside.ensures ∙ plain_made _ _ _ _ _ _ _ _ c.make_boxes.ensures c.lent_numbers.ensures _ c.in_ok-make_boxes.was 1 _ _ _ _
