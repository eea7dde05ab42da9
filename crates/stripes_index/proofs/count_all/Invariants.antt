-- `stripes_index::count_all` meets its contract. The invariant: the first i segments are counted. Assumes nothing.
use mathlib.Core.Path.{◌≡◌}
use lib.ListN.{length}
use Rattle.rings.specs.Ring.{wide}
use Rattle.room.specs.Room.{pad}
use Rattle.stripes_index.specs.Index.{crosses}
use Rattle.stripes_index.specs.Inner.States.{counts_at}
use Rattle.stripes_index.proofs.count_all.Given as goal

abbrev pub invariant-loop-i : goal.invariant-loop-i
invariant-loop-i l = l.stripes ≡ pad (length l.initial.stripes) (counts_at (crosses (wide l.ring) l.cut.least l.cut.height l.cut.stripes) l.cut.stripes l.i)
