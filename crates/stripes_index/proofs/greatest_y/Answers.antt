-- `stripes_index::greatest_y` meets its contract. Assumes nothing.
use Rattle.std.proofs.Common.{◌∙◌, rules}
use Rattle.floats.specs.Values.{greater_of}
use Rattle.stripes_index.proofs.Picked.{greatest_picked}
use Rattle.stripes_index.proofs.greatest_y.Goals as goal

pub returns : goal.returns
returns c = c.height_by.ensures greater_of (λ a b r h. search rules) ∙ greatest_picked _ _
