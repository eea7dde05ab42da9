-- `root::whole_root` meets its contract. After i turns q is the root of m * 4 ^ i / 2 ^ 54, and `left` the digits of m * 4 ^ i that are still to come. Assumes nothing.
use mathlib.Core.Path.{◌≡◌}
use Prim.Native.Nat.{ℕ, ◌+◌, ◌*◌, ◌^◌, ◌≤◌, ◌<◌}
use Rattle.root.proofs.whole_root.Given as goal

pub record Upto (m q rem left i : ℕ) : Type 0 where
  pub rest : rem ≤ 2 * q
  pub short : q < 2 ^ i
  pub width : left < 2 ^ 54
  pub whole : (q * q + rem) * 2 ^ 54 + left ≡ m * 4 ^ i
  pub turns : i ≤ 54

abbrev pub invariant-loop : goal.invariant-loop
invariant-loop l = Upto l.m l.root.q l.root.rem l.left l.counter
