-- `tree_part::settle` meets its contract.
use mathlib.Core.Path.{◌≡◌}
use mathlib.Core.List.{map}
use Rattle.tree_part.specs.Inner.Halves.{upper}
use Rattle.tree_part.proofs.Turned.{turned_from}
use Rattle.tree_part.proofs.settle.Given as goal

abbrev pub invariant-loop-x : goal.invariant-loop-x
invariant-loop-x l = map upper l.fn.run ≡ turned_from upper l.x-index l.run
