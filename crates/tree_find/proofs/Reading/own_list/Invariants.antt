use Prim.Native.Nat.{◌-◌, ◌≤◌}
use mathlib.Core.Path.{◌≡◌}
use Rattle.tree_find.specs.Inner.Walks.{pour}
use Rattle.tree_find.specs.Inner.Parts.{ring_of, own_list_in}
use Rattle.tree_find.proofs.Reading.own_list.Given as goal

abbrev pub invariant-loop : goal.invariant-loop
invariant-loop g l =
    let step = g.V.Visit.step (ring_of l.self) in
    (pour step (own_list_in l.self l.end l.n 0 l.at) l.initial.visit ≡ pour step (own_list_in l.self l.end (l.n - l.counter) l.last l.p) l.visit)
    × (l.last ≤ l.self.segments)
