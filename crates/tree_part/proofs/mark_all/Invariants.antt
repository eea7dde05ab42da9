-- `tree_part::mark_all` meets its contract.
use mathlib.Core.Path.{◌≡◌}
use mathlib.Core.List.{map}
use lib.ListN.{length, drop}
use Rattle.tree.specs.All.{All}
use Rattle.rings.specs.Ring.{wide}
use Rattle.tree_part.specs.Part.{Readable}
use Rattle.tree_part.specs.Inner.Halves.{marked}
use Rattle.tree_part.proofs.Turned.{turned_from}
use Rattle.tree_part.proofs.mark_all.Given as goal

abbrev pub invariant-loop-x : goal.invariant-loop-x
invariant-loop-x l =
    (map (marked (wide l.ring) l.bounds) l.fn.run ≡ turned_from (marked (wide l.ring) l.bounds) l.x-index l.run) × All (Readable (length l.ring)) (drop l.x-index l.run)
