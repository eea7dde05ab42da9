-- `next_up_of` is IEEE 754's, for every value of the format, and that fixes it. Assumes nothing.
use mathlib.Core.Path.{◌≡◌, refl, sym, ap, ◌∙◌, subst}
use mathlib.Core.Logic.{inl, inr}
use Prim.Native.Nat.{ℕ, zero, suc, ◌+◌, ◌-◌}
use native.Mathlib.Omega.{arith}
use mathlib.Core.Bool.{Bool, true, false, cond}
use lib.IntN.{ℤ, pos}
use lib.Dec.{T, ltb, eqb}
use borrow.Author.Tests.{ltb-false, eqb-true}
use lib.Ieee.{Float, nan, inf, fin, Format, binary64, is_nan, fits, of_bits, to_bits, lt, eq}
use Rattle.floats.specs.Next.{next_up_of, next_bits, NextUp, smallest, zero_of}
use Rattle.floats.proofs.Keys.{INF, TOP}
use Rattle.floats.proofs.Next.{at_nan}
use Rattle.floats.proofs.Least.{next_bits_lem, next_least, next_fits}
use Rattle.floats.proofs.Order.{le_antisym, eq_same, zero_is, zero_either}

-- ---- the pattern of +0 is no next one
never_first : (n : ℕ) → next_bits n ≡ 0 → ⊥
never_first n = go (ltb n INF) (eqb n INF) (eqb n TOP) refl refl
  where
    go : (a b c : Bool) → ltb n INF ≡ a → eqb n INF ≡ b → cond a (n + 1) (cond b n (cond c 1 (n - 1))) ≡ 0 → ⊥
    go true b c u v h = omega arith
    go false true c u v h = omega (arith, eqb-true n INF v)
    go false false true u v h = omega arith
    go false false false u v h = omega (arith, ltb-false n INF u)

never_plus : (x : Float) → T (fits binary64 x) → T (lt x (inf false)) → next_up_of x ≡ zero_of false → ⊥
unfolding to_bits
never_plus x f h z = never_first (to_bits binary64 x) (sym (next_bits_lem x f h) ∙ ap (to_bits binary64) z)

-- so a zero that is not +0 is -0
minus_zero : (f : Format) (r : Float) → T (fits f r) → (r ≡ zero_of false → ⊥) → T (eq r (zero_of false)) → r ≡ zero_of true
minus_zero f r p u h = go (zero_either f r p h)
  where
    go : (s : Bool) × (r ≡ zero_of s) → r ≡ zero_of true
    go z = pick z.0 z.1
      where
        pick : (s : Bool) → r ≡ zero_of s → r ≡ zero_of true
        pick true e = e
        pick false e = absurd (u e)

-- ---- for every x
from_infinity : (s : Bool) → NextUp binary64 (inf s) (next_up_of (inf s))
unfolding next_up_of is_nan to_bits of_bits
from_infinity true = refl
from_infinity false = refl

from_zero : (s : Bool) → next_up_of (zero_of s) ≡ smallest binary64
unfolding next_up_of is_nan to_bits of_bits
from_zero true = refl
from_zero false = refl

from_finite : (s : Bool) (m : ℕ) (e : ℤ) → T (lt (fin s m e) (inf false))
unfolding lt
from_finite s m e = tt

pub next_up_meets : (x : Float) → T (fits binary64 x) → NextUp binary64 x (next_up_of x)
next_up_meets nan f = sym (at_nan nan refl)
next_up_meets (inf true) f = from_infinity true
next_up_meets (inf false) f = from_infinity false
next_up_meets (fin s zero e) f = ap next_up_of (zero_is binary64 s e f) ∙ from_zero s
next_up_meets (fin s (suc m) e) f =
    let x = fin s (suc m) e in
    let h = from_finite s (suc m) e in
    (next_fits x, next_least x f h, minus_zero binary64 (next_up_of x) (next_fits x) (never_plus x f h))

-- what `next_up` promises, of a result that is computed
pub next_up_promise : (x r : Float) → T (fits binary64 x) → r ≡ next_up_of x → NextUp binary64 x r × (r ≡ next_up_of x)
next_up_promise x r f e = (subst (λ (z : Float). NextUp binary64 x z) (sym e) (next_up_meets x f), e)

-- ---- and there is one
pub next_up_only : (f : Format) (x r r' : Float) → NextUp f x r → NextUp f x r' → r ≡ r'
next_up_only f nan r r' p q = p ∙ sym q
next_up_only f (inf true) r r' p q = p ∙ sym q
next_up_only f (inf false) r r' p q = p ∙ sym q
next_up_only f (fin s zero e) r r' p q = p ∙ sym q
next_up_only f (fin s (suc m) e) r r' p q =
    elim (eq_same f r r' p.0 q.0 (le_antisym r r' (p.1.least r' q.0 q.1.above) (q.1.least r p.0 p.1.above))) [
      | inl same ↦ same
      | inr zeros ↦ p.2 zeros.0 ∙ sym (q.2 zeros.1)
    ]

-- 01's case: next up from -1 has bits BFEFFFFFFFFFFFFF
pub next_up_from_minus_one : to_bits binary64 (next_up_of (fin true 1 (pos 0))) ≡ 0xbfef_ffff_ffff_ffff
unfolding next_up_of to_bits of_bits is_nan
next_up_from_minus_one = refl
