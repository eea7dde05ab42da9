-- `varint::write_uvarint` meets its contract. The loop's invariant: what is left, written here, gives the room that the
-- whole number written at its place gives, and ends where that ends.
use mathlib.Core.Path.{◌≡◌}
use Prim.Native.Nat.{◌+◌}
use lib.ListN.{length}
use Rattle.room.specs.Room.{write}
use Rattle.varint.specs.Leb128.{encode}
use Rattle.varint.proofs.write_uvarint.Given as goal

abbrev pub invariant-loop-rest : goal.invariant-loop-rest
invariant-loop-rest l =
    (write l.out l.p (encode l.rest) ≡ write l.initial.out l.at (encode l.x))
    × (l.p + length (encode l.rest) ≡ l.at + length (encode l.x))
    × (length l.out ≡ length l.initial.out)

abbrev pub decreases-loop-rest : goal.decreases-loop-rest
decreases-loop-rest l = l.rest
