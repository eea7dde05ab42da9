-- `stripes_index::count_segment` meets its contract. The invariant: the segment is counted in the stripes below s. Assumes nothing.
use mathlib.Core.Path.{◌≡◌}
use lib.ListN.{length}
use Rattle.rings.specs.Ring.{wide}
use Rattle.room.specs.Room.{pad}
use Rattle.stripes_index.specs.Index.{crosses}
use Rattle.stripes_index.specs.Inner.States.{none}
use Rattle.stripes_index.proofs.Entering.{counts_to}
use Rattle.stripes_index.proofs.count_segment.Given as goal

abbrev pub invariant-loop-s : goal.invariant-loop-s
invariant-loop-s l =
    l.stripes ≡ pad (length l.initial.stripes) (counts_to (crosses (wide l.ring) l.fn.cut.least l.fn.cut.height l.fn.cut.stripes) l.fn.cut.stripes none l.i l.s)
