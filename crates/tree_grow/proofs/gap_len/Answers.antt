-- `tree_grow::gap_len` meets its contract. Assumes nothing.
use Prim.Native.Nat.{◌-◌}
use Rattle.tree_grow.proofs.Own.{encode_ten}
use native.Mathlib.Omega.{arith}
use Rattle.tree_grow.proofs.gap_len.Goals as goal

pub returns : goal.returns
returns c =
    let a = c.args in
    let e = rw (c.from.ensures, c.saturating_sub.ensures) at c.uvarint_len.ensures in
    (e, omega (arith, e, encode_ten (a.x - a.last) (omega arith)))
