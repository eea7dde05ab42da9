-- `outline_record::pick_of` meets its contract. The invariant: the pick so far is that over the first i + 1 points. Assumes nothing.
use Rattle.std.proofs.Common.{◌≡◌, ℤ}
use Rattle.outline_record.specs.Record.{picked_z}
use Rattle.outline_record.proofs.Extremes.{at}
use Rattle.outline_record.proofs.pick_of.Given as goal

abbrev pub invariant-loop-i : goal.invariant-loop-i
invariant-loop-i g l =
    (t : ℤ → ℤ → ℤ) → ((a b r : ℤ) → goal.F-post g l.pick a b r → r ≡ t a b) → l.so_far ≡ picked_z t (at l.coords l.offset) l.i
