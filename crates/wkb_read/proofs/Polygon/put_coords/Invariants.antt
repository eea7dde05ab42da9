use Rattle.wkb_read.proofs.Put.{Laying}
use Rattle.wkb_read.proofs.Polygon.put_coords.Given as goal

abbrev pub invariant-loop-k : goal.invariant-loop-k
invariant-loop-k l = Laying l.self.bytes.now l.self.order l.self.scale l.self.rings l.initial.coords l.at l.c l._k l.coords
