use mathlib.Core.Path.{◌∙◌}
use Rattle.wkb_fields.proofs.Fields.{four_little, four_big}
use Rattle.wkb_fields.proofs.u32_at.Goals as goal

pub returns-in-Big : goal.returns-in-Big
returns-in-Big c = c.from_be_bytes.ensures ∙ rw (c.bytes_at.ensures, c.in-Big.is) (four_big c.args.bytes.now c.args.at c.requires)

pub returns-in-Little : goal.returns-in-Little
returns-in-Little c = c.from_le_bytes.ensures ∙ rw (c.bytes_at-in-Little.ensures, c.in-Little.is) (four_little c.args.bytes.now c.args.at c.requires)
