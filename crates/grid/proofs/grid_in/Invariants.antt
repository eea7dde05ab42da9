-- The loop's invariant: the ring test from segment i on, with the answer so far, is the whole ring test.
use Prim.Native.Nat.{ℕ}
use mathlib.Core.Path.{◌≡◌}
use mathlib.Core.Bool.{Bool, true, false}
use mathlib.Core.List.{List}
use lib.IntN.{ℤ}
use Rattle.room.specs.Numbers.{up_to}
use Rattle.rings.specs.RingTest.{test_from}
use Rattle.grid.specs.Rings.{on_at, flip_at}
use Rattle.grid.proofs.grid_in.Given as goal

-- the ring test from segment i on
abbrev pub rest : List ℤ → ℕ → ℤ → ℤ → Bool → Bool → ℕ → Bool
rest ring n px py edge answer i = test_from (on_at ring px py) (flip_at ring px py) edge answer (up_to (λ j. true) n i)

abbrev pub invariant-loop-i : goal.invariant-loop-i
invariant-loop-i l = rest l.coords l.n l.px l.py l.edge l.answer l.i ≡ rest l.coords l.n l.px l.py l.edge false 0
