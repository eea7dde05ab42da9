-- A coordinate raised by 2^31 is not below 0, and below 2^32. Assumes nothing.
use Prim.Native.Nat.{suc, ◌-◌, ◌^◌, ◌<◌}
use mathlib.Core.Path.{◌≡◌, refl, sym, ap, ◌∙◌}
use native.Mathlib.Omega.{arith}
use lib.IntN.{ℤ, pos, negsuc, nat_abs}
use mir.Syntax.{w32}
use mir.Val.{SFits}
use borrow.Author.Tests.{le-ltb}
use Rattle.turn.specs.Inner.Halves.{raised}

pub record Lifted (z : ℤ) : Type 0 where
  pub is : pos (nat_abs (raised z)) ≡ raised z
  pub small : nat_abs (raised z) < 2 ^ 32

pub lifted : (z : ℤ) → SFits w32 z → Lifted z
lifted (pos n) f = record { is = refl; small = let h : n < 2147483648 = f.sfits in omega arith }
lifted (negsuc n) f =
    let h : n < 2147483648 = f.sfits in
    let e : raised (negsuc n) ≡ pos (2147483648 - suc n) = rw (le-ltb 2147483648 (suc n) h) in
    record { is = ap (λ (z : ℤ). pos (nat_abs z)) e ∙ sym e; small = rw (ap nat_abs e) (omega arith) }
