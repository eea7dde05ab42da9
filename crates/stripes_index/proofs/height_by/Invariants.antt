-- `stripes_index::height_by` meets its contract. The invariant: it holds of the first i segments. Assumes nothing.
use Rattle.std.proofs.Common.{◌≡◌, Float}
use Rattle.rings.specs.Ring.{wide}
use Rattle.stripes_index.specs.Inner.States.{picked}
use Rattle.stripes_index.proofs.height_by.Given as goal

abbrev pub invariant-loop-i : goal.invariant-loop-i
invariant-loop-i g l =
    (better : Float → Float → Float) → ((a b r : Float) → goal.F-post g l.pick a b r → r ≡ better a b) → l.height ≡ picked better (wide l.ring) l.i
