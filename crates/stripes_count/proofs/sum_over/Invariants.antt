-- `stripes_count::sum_over` meets its contract. The invariant: what is summed so far is the sum over the first i segments. Assumes nothing.
use Rattle.std.proofs.Common.{◌≡◌, Float}
use Rattle.rings.specs.Ring.{wide}
use Rattle.stripes_count.specs.declared.Ends.{Ends}
use Rattle.stripes_count.specs.Count.{sum_to, ends_at_of}
use Rattle.stripes_count.proofs.sum_over.Given as goal

abbrev pub invariant-loop-i : goal.invariant-loop-i
invariant-loop-i g l =
    (t : Ends → Float) → ((s : Ends) (r : Float) → goal.F-post g l.term s r → r ≡ t s) → l.sum ≡ sum_to (λ k. t (ends_at_of (wide l.ring) k)) l.i
