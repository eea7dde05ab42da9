-- `root::scale` meets its contract. Assumes nothing.
use Rattle.root.proofs.Patterns.{normal_scaled}
use Rattle.root.proofs.scale.Goals as goal

pub returns : goal.returns
returns c = normal_scaled _ c.if-n-lt-LEAD.false c.requires.1
