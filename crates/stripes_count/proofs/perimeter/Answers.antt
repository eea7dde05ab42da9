-- `stripes_count::perimeter` meets its contract. Assumes nothing.
use Rattle.std.proofs.Common.{rules}
use Rattle.stripes_count.specs.Count.{length_of}
use Rattle.stripes_count.proofs.perimeter.Goals as goal

pub returns : goal.returns
returns c = c.sum_over.ensures length_of (λ s r h. search rules)
