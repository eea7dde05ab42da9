-- The loop has told the range of each number before the index. Assumes nothing.
use Prim.Native.Nat.{ℕ, ◌^◌, ◌<◌}
use lib.ListN.{get_or}
use lib.IntN.{pos}
use lib.Signed.{mag}
use Rattle.outline_plain.proofs.lent_numbers.Given as goal

abbrev pub invariant-loop-number : goal.invariant-loop-number
invariant-loop-number l = (j : ℕ) → j < l.number-index → mag (get_or l.coords j (pos 0)) < 2 ^ 31
