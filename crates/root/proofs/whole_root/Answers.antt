-- `root::whole_root` meets its contract. After i turns q is the root of m * 4 ^ i / 2 ^ 54, and `left` the digits of m * 4 ^ i that are still to come. Assumes nothing.
use mathlib.Core.Path.{◌≡◌, ap, ◌∙◌}
use Prim.Native.Nat.{ℕ, ◌+◌, ◌*◌, ◌/◌, ◌%◌, ◌^◌, ◌≤◌, ◌<◌}
use native.Mathlib.Nat.{pow-suc, lt_of_lt_of_le, mul_assoc}
use native.Mathlib.Numerals.{add-one}
use native.Mathlib.Omega.{arith}
use lib.Pow.{pow_mono}
use Rattle.root.specs.Inner.Digits.{Rooted}
use Rattle.root.proofs.whole_root.Invariants.{Upto}
use Rattle.root.proofs.whole_root.Goals as goal

small : (q i : ℕ) → q < 2 ^ i → i ≤ 54 → q < 2 ^ 54
small q i h k = lt_of_lt_of_le h (pow_mono k)

pairs : (p left n : ℕ) → p * 2 ^ 54 + left ≡ n → (4 * p + left / 2 ^ 52) * 2 ^ 54 + left % 2 ^ 52 * 4 ≡ n * 4
pairs p left n h = omega arith

turn : (m q rem left i q' rem' : ℕ) → Upto m q rem left i → i < 54 → Rooted (4 * (q * q + rem) + left / 2 ^ 52) q' rem' → q' ≤ 2 * q + 1 → Upto m q' rem' (left % 2 ^ 52 * 4) (i + 1)
turn m q rem left i q' rem' u k r b =
    let w = u.whole in
    let e : 2 ^ (i + 1) ≡ 2 ^ i * 2 = ap (λ (z : ℕ). 2 ^ z) (add-one i) ∙ pow-suc 2 i in
    let g : 4 ^ (i + 1) ≡ 4 ^ i * 4 = ap (λ (z : ℕ). 4 ^ z) (add-one i) ∙ pow-suc 4 i in
    record {
      rest = r.rest;
      short = omega (arith, u.short);
      width = omega arith;
      whole = rw (r.whole, g, ← mul_assoc m (4 ^ i) 4) (pairs (q * q + rem) left (m * 4 ^ i) w);
      turns = omega arith;
    }

pub digit-root-requires : goal.digit-root-requires
digit-root-requires c =
    let u = c.loop.invariant in
    (small _ _ u.short u.turns, u.rest, omega (arith, u.width))

pub loop-preserved : goal.loop-preserved
loop-preserved c =
    let more : c.loop.counter < 54 = omega arith in
    turn _ _ _ _ _ _ _ c.loop.invariant more c.digit-root.ensures.0 c.digit-root.ensures.1
