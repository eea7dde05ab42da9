-- The loop's invariant: the two halves stand for the sum of the products so far, and neither has more than 2^32 for each.
use Prim.Native.Nat.{ℕ, ◌+◌, ◌*◌, ◌^◌, ◌≤◌}
use mathlib.Core.Path.{◌≡◌}
use lib.IntN.{ℤ, pos}
use Rattle.boxes.specs.declared.Segment.{Segment}
use Rattle.rings.specs.Ring.{segment_at}
use Rattle.turn.specs.Turn.{sum_to}
use Rattle.turn.proofs.sum.Given as goal

abbrev pub invariant-loop-i : goal.invariant-loop-i
invariant-loop-i g l = record {
  total : (t : Segment → ℤ) → ((s : Segment) (r : ℕ) → goal.F-post g l.term s r → pos r ≡ t s)
      → pos (l.high * 2 ^ 32 + l.low) ≡ sum_to (λ i. t (segment_at l.coords i)) l.i;
  high : l.high ≤ l.i * 2 ^ 32;
  low : l.low ≤ l.i * 2 ^ 32;
}
