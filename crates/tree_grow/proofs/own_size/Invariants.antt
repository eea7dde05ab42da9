-- `tree_grow::own_size` meets its contract. The invariant: what is counted and what is to come are the whole. Assumes nothing.
use Prim.Native.Nat.{◌+◌, ◌*◌, ◌≤◌}
use mathlib.Core.Path.{◌≡◌}
use lib.ListN.{length, drop}
use Rattle.tree.specs.Tree.{differences, own_bytes}
use Rattle.tree_grow.proofs.own_size.Given as goal

abbrev pub invariant-loop-x : goal.invariant-loop-x
invariant-loop-x l =
    (l.size + length (differences l.last (drop l.x-index l.run)) ≡ length (own_bytes l.run)) × (l.size ≤ 10 + 10 * l.x-index)
