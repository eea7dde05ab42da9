use mathlib.Core.Path.{ap, ◌∙◌}
use mir.Syntax.{w64}
use mir.Facts.{to_z-of_z}
use lib.Ieee.{Float, binary64, mul}
use Rattle.whole.specs.Round.{round_to}
use Rattle.wkb_read.proofs.Polygon.rounded.Goals as goal

pub returns : goal.returns
returns c = to_z-of_z {w = w64} (record { sfits = c.round.type_inv }) ∙ c.round.ensures.computed ∙ ap (λ (x : Float). round_to 63 (mul binary64 x c.args.self.scale)) c.double_at.ensures
