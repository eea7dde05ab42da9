-- `tree::pick_of` meets its contract. The invariant: the pick so far is that over the first i + 1 points. Assumes nothing.
use Rattle.std.proofs.Common.{◌≡◌, Float}
use Rattle.rings.specs.Ring.{wide}
use Rattle.tree.specs.Tree.{picked}
use Rattle.tree.proofs.Extremes.{at}
use Rattle.tree.proofs.pick_of.Given as goal

abbrev pub invariant-loop-i : goal.invariant-loop-i
invariant-loop-i g l =
    (t : Float → Float → Float) → ((a b r : Float) → goal.F-post g l.pick a b r → r ≡ t a b) → l.so_far ≡ picked t (at (wide l.coords) l.offset) l.i
