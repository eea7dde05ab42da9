-- `stripes_build::Sound::enter_all` meets its contract. The invariant: the first i segments are entered. Assumes nothing.
use mathlib.Core.Path.{◌≡◌}
use lib.ListN.{length}
use Rattle.room.specs.Room.{pad}
use Rattle.stripes_index.specs.Index.{crosses}
use Rattle.stripes_index.specs.Inner.States.{table_at, list_at_of}
use Rattle.rings.specs.Ring.{wide}
use Rattle.stripes_build.proofs.Sound.enter_all.Given as goal

abbrev pub invariant-loop-i : goal.invariant-loop-i
invariant-loop-i l = record {
  table : l.stripes ≡ pad (length l.initial.stripes) (table_at (crosses (wide l.self.ring.now) l.cut.least l.cut.height l.cut.stripes) l.cut.stripes l.self.segments l.i);
  numbers : l.list ≡ pad (length l.initial.list) (list_at_of (crosses (wide l.self.ring.now) l.cut.least l.cut.height l.cut.stripes) l.cut.stripes l.self.segments l.i);
}
