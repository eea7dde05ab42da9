-- `stripes_index::least_y` meets its contract. Assumes nothing.
use Rattle.std.proofs.Common.{◌∙◌, rules}
use Rattle.floats.specs.Values.{lesser_of}
use Rattle.stripes_index.proofs.Picked.{least_picked}
use Rattle.stripes_index.proofs.least_y.Goals as goal

pub returns : goal.returns
returns c = c.height_by.ensures lesser_of (λ a b r h. search rules) ∙ least_picked _ _
