-- `stripes_build::Sound::enter_segment` meets its contract. The invariant: the segment is entered in the stripes below s. Assumes nothing.
use mathlib.Core.Path.{◌≡◌}
use mathlib.Core.Bool.{Bool}
use Prim.Native.Nat.{ℕ}
use lib.ListN.{length}
use Rattle.room.specs.Room.{pad}
use Rattle.stripes_index.specs.Index.{list_of, crosses}
use Rattle.stripes_index.proofs.Entering.{counts_to, numbers_to}
use Rattle.rings.specs.Ring.{wide}
use Rattle.stripes_build.proofs.Sound.enter_segment.Given as goal

abbrev pub starts : (ℕ → ℕ → Bool) → ℕ → ℕ → ℕ
starts cross n t = length (list_of cross n t)

abbrev pub invariant-loop-s : goal.invariant-loop-s
invariant-loop-s l = record {
  table : l.stripes ≡ pad (length l.initial.stripes) (counts_to (crosses (wide l.fn.self.ring.now) l.fn.cut.least l.fn.cut.height l.fn.cut.stripes) l.fn.cut.stripes (starts (crosses (wide l.fn.self.ring.now) l.fn.cut.least l.fn.cut.height l.fn.cut.stripes) l.fn.self.segments) l.i l.s);
  numbers : l.list ≡ pad (length l.initial.list) (numbers_to (crosses (wide l.fn.self.ring.now) l.fn.cut.least l.fn.cut.height l.fn.cut.stripes) l.fn.cut.stripes l.fn.self.segments l.i l.s);
}
