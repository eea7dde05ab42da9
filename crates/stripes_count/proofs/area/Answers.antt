-- `stripes_count::area` meets its contract. Assumes nothing.
use Rattle.std.proofs.Common.{rules}
use Rattle.stripes_count.specs.Count.{cross_of}
use Rattle.stripes_count.proofs.area.Goals as goal

pub returns : goal.returns
returns c = simp (c.abs.ensures, c.sum_over.ensures cross_of (λ s r h. search rules))
