-- `root::root_bits` meets its contract. Assumes nothing.
use native.Mathlib.Omega.{arith}
use Rattle.root.proofs.Patterns.{root_range, root_bits_lem}
use Rattle.root.proofs.root_bits.Goals as goal

pub overflow_sub-result : goal.overflow_sub-result
overflow_sub-result c =
    let s = c.scale-s.ensures in
    omega (arith, (root_range _ _ _ s.long s.short c.whole_root-w.ensures).0)

pub returns : goal.returns
returns c = root_bits_lem _ _ _ _ _ c.scale-s.ensures c.whole_root-w.ensures
