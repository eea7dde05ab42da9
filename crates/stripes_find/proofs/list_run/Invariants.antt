-- `stripes_find::list_run` meets its contract. The invariant is `Listing`. Assumes nothing.
use mathlib.Core.Bool.{Bool}
use mathlib.Core.List.{List}
use Prim.Native.Nat.{ℕ, ◌≤◌}
use lib.ListN.{length}
use lib.IntN.{ℤ}
use lib.Ieee.{Float}
use Rattle.rings.specs.Ring.{wide, side_at, holds_height}
use Rattle.stripes_find.proofs.Reading.{Listing}
use Rattle.stripes_find.proofs.list_run.Given as goal

abbrev pub test : List ℤ → Float → ℕ → Bool
test ring y i = holds_height (side_at (wide ring) i) y

abbrev pub invariant-loop-at : goal.invariant-loop-at
invariant-loop-at l = record {
  listing : Listing l.n (test l.ring l.y) l.list l.start l.past l.initial.out l.out l.k l.at;
  fits : l.k ≤ length l.out;
}
