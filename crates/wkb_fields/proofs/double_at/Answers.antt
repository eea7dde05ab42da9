use mathlib.Core.Path.{ap, ◌∙◌}
use lib.Ieee.{binary64, of_bits}
use Rattle.wkb_fields.proofs.double_at.Goals as goal

pub returns : goal.returns
returns c = c.float_of.ensures ∙ ap (of_bits binary64) c.u64_at.ensures
