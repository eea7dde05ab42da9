-- The loop's invariant is `Filling` of Listing.antt.
use Rattle.rings.specs.Ring.{wide, side_at, holds_height}
use Rattle.rings.proofs.Listing.{Filling}
use Rattle.rings.proofs.list.Given as goal

abbrev pub invariant-loop-i : goal.invariant-loop-i
invariant-loop-i l = Filling (λ j. holds_height (side_at (wide l.coords) j) l.y) l.n l.initial.out l.out l.k l.i
