-- `root::scale_subnormal` meets its contract. Assumes nothing.
use Prim.Native.Nat.{◌/◌}
use native.Mathlib.Omega.{arith}
use Rattle.root.proofs.Patterns.{widened, widened_done, pairs_fit}
use Rattle.root.proofs.scale_subnormal.Goals as goal

pub overflow_sub-pairs : goal.overflow_sub-pairs
overflow_sub-pairs c = let w = widened _ _ c.requires.1 c.ilog2.ensures.power_le c.ilog2.ensures.next_power_gt in omega arith

pub pow-requires : goal.pow-requires
pow-requires c = pairs_fit (c.ilog2.result / 2)

pub overflow_mul-result : goal.overflow_mul-result
overflow_mul-result c = let w = widened _ _ c.requires.1 c.ilog2.ensures.power_le c.ilog2.ensures.next_power_gt in rw c.pow.ensures (omega arith)

pub returns : goal.returns
returns c = rw (c.pow.ensures, c.from.ensures) (widened_done _ _ c.requires.1 c.ilog2.ensures.power_le c.ilog2.ensures.next_power_gt)
