-- There are at least 32 stripes. Assumes nothing.
use Rattle.std.proofs.Common.{ℕ, ◌≤◌, max, arith}
use lib.Ieee.{Float}
use Rattle.stripes_count.specs.Count.{stripe_count}

pub some_stripes : (ring : ℕ → Float) (n : ℕ) → 32 ≤ stripe_count ring n
unfolding stripe_count
some_stripes ring n = least _
  where
    least : (a : ℕ) → 32 ≤ max 32 a
    least a = omega arith
