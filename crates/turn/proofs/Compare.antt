-- Numbers in two halves are compared by the high halves first, and what compares two sums tells the turn. Assumes nothing.
use Prim.Native.Nat.{ℕ, ◌+◌, ◌*◌, ◌^◌, ◌<◌}
use mathlib.Core.Path.{◌≡◌, sym, ap, ◌∙◌}
use mathlib.Core.Bool.{cond}
use native.Mathlib.Omega.{arith}
use lib.Dec.{ltb}
use lib.IntN.{pos, ◌-ℤ◌}
use borrow.Author.Tests.{lt-ltb, le-ltb}
use Rattle.std.specs.declared.cmp.Ordering.{Ordering}
use Rattle.std.specs.declared.cmp.Ordering.TheVariants.{Less, Equal, Greater}
use Rattle.std.specs.Ordering.{MatchOrdering, nat_cmp, ordering_then}
use Rattle.std.specs.Cmp.{nat_cmp_is, ranks}
use Rattle.turn.specs.declared.Turning.{Turning}
use Rattle.turn.specs.declared.Turning.TheVariants.{Anticlockwise, Clockwise, None}
use Rattle.turn.specs.declared.Halves.{Halves}
use Rattle.turn.specs.Turn.{turn_of}
use Rattle.turn.specs.Inner.Halves.{value_of}
use Rattle.turn.proofs.Sign.{turn_of_lem}

-- the turn of the greater of two sums
abbrev pub told : Ordering → Turning
told Greater = Anticlockwise
told Less = Clockwise
told Equal = None

halves_cmp : (h l k m : ℕ) → l < 2 ^ 32 → m < 2 ^ 32 → ordering_then (nat_cmp h k) (nat_cmp l m) ≡ nat_cmp (h * 2 ^ 32 + l) (k * 2 ^ 32 + m)
halves_cmp h l k m small small' = nat_cmp_is _ _ _ (go (nat_cmp h k) (nat_cmp l m) (ranks h k) (ranks l m))
  where
    go : (p q : Ordering) → MatchOrdering p (h < k) (h ≡ k) (k < h) → MatchOrdering q (l < m) (l ≡ m) (m < l)
        → MatchOrdering (ordering_then p q) (h * 2 ^ 32 + l < k * 2 ^ 32 + m) (h * 2 ^ 32 + l ≡ k * 2 ^ 32 + m) (k * 2 ^ 32 + m < h * 2 ^ 32 + l)
    go Less q a b = omega arith
    go Greater q a b = omega arith
    go Equal Less a b = omega arith
    go Equal Equal a b = omega arith
    go Equal Greater a b = omega arith

turn_told : (p m : ℕ) → turn_of (pos p -ℤ pos m) ≡ told (nat_cmp p m)
turn_told p m = turn_of_lem p m ∙ go (nat_cmp p m) (ranks p m)
  where
    go : (r : Ordering) → MatchOrdering r (p < m) (p ≡ m) (m < p) → cond (ltb m p) Anticlockwise (cond (ltb p m) Clockwise None) ≡ told r
    go Less h = rw (le-ltb m p (omega arith), lt-ltb p m h)
    go Equal h = rw (le-ltb m p (omega arith), le-ltb p m (omega arith))
    go Greater h = rw (lt-ltb m p h)

pub turn_of_halves : (a b : Halves) → a.low < 2 ^ 32 → b.low < 2 ^ 32
    → turn_of (pos (value_of a) -ℤ pos (value_of b)) ≡ told (ordering_then (nat_cmp a.high b.high) (nat_cmp a.low b.low))
turn_of_halves a b p q = turn_told (value_of a) (value_of b) ∙ ap told (sym (halves_cmp a.high a.low b.high b.low p q))
