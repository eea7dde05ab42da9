use Prim.Native.Nat.{◌*◌, ◌≤◌}
use mathlib.Core.Path.{◌≡◌}
use lib.ListN.{length}
use Rattle.room.specs.Room.{write}
use Rattle.outline_check.specs.Outline.{start_of}
use Rattle.outline_record.specs.Record.{boxes_to}
use Rattle.outline_record.proofs.put_boxes.Given as goal

abbrev pub invariant-loop-k : goal.invariant-loop-k
invariant-loop-k l =
    (l.k ≤ length l.sound.sizes.now) × (l.start ≡ 2 * start_of l.sound.sizes.now l.k) × (l.out ≡ write l.initial.out 0 (boxes_to l.sound.sizes.now l.sound.coords.now l.k)) × (length l.out ≡ length l.initial.out)
