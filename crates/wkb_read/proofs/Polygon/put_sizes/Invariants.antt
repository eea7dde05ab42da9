use Rattle.wkb_read.proofs.Put.{Sizing}
use Rattle.wkb_read.proofs.Polygon.put_sizes.Given as goal

abbrev pub invariant-loop-k : goal.invariant-loop-k
invariant-loop-k l = Sizing l.self.bytes.now l.self.order l.self.rings l.initial.sizes l.at l.k l.sizes
