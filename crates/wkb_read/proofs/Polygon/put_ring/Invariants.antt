use Prim.Native.Nat.{◌+◌, ◌*◌}
use Rattle.wkb_read.proofs.Put.{Putting}
use Rattle.wkb_read.proofs.Polygon.put_ring.Given as goal

abbrev pub invariant-loop-i : goal.invariant-loop-i
invariant-loop-i l =
    Putting l.self.bytes.now l.self.order l.self.scale l.n l.start l.to l.initial.coords (l.start + 16 * l.i) (l.to + 2 * l.i) l.i l.coords
