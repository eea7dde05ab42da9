-- Facts about `next_up_of`. Assumes nothing.
use mathlib.Core.Path.{◌≡◌, refl, sym, ap, ◌∙◌, subst}
use mathlib.Core.Bool.{Bool, true, false, cond, not, true≢false}
use Prim.Native.Nat.{ℕ, ◌+◌, ◌%◌, ◌≤◌, ◌<◌}
use native.Mathlib.Omega.{arith}
use native.Mathlib.Decide.{dec_lt, ℕ_discrete}
use lib.Dec.{T, ltb, ltb→lt, not_T, nltb→le}
use borrow.Author.Tests.{lt-ltb, le-ltb, eq-eqb, ne_eqb}
use lib.Ieee.{Float, nan, inf, fin, binary64, is_nan, ne, fits, of_bits, to_bits, nan_bits}
use lib.Ieee.Compare.{differs_from_itself}
use lib.Ieee.Bits.{of_bits-to_bits, to_bits-lt, nan_bits_is, nan_bits_above}
use Rattle.std.specs.Float.{next_up, next_up_by_bits}
use Rattle.floats.specs.Next.{next_up_of, next_bits}

pub is_nan_lem : (x : Float) → ne x x ≡ true → x ≡ nan
is_nan_lem x h = differs_from_itself x (subst T (sym h) tt)

-- a pattern of 64 bits is no NaN's where, with the sign's bit off, it is at most the infinity's
abbrev pub Plain : ℕ → Type 0
Plain n = n % 0x8000_0000_0000_0000 ≤ 0x7ff0_0000_0000_0000

plain : (n : ℕ) → nan_bits binary64 n ≡ false → Plain n
plain n h = nltb→le 0x7ff0_0000_0000_0000 (n % 0x8000_0000_0000_0000) (subst (λ (b : Bool). T (not b)) (sym (sym (nan_bits_above binary64 n) ∙ h)) tt)

pub no_nan_bits : (n : ℕ) → Plain n → T (not (nan_bits binary64 n))
no_nan_bits n h =
    subst (λ (b : Bool). T (not b)) (sym (nan_bits_above binary64 n))
    (not_T (ltb 0x7ff0_0000_0000_0000 (n % 0x8000_0000_0000_0000)) (λ t. clash (n % 0x8000_0000_0000_0000) h (ltb→lt 0x7ff0_0000_0000_0000 (n % 0x8000_0000_0000_0000) t)))
  where
    clash : (k : ℕ) → k ≤ 0x7ff0_0000_0000_0000 → 0x7ff0_0000_0000_0000 < k → ⊥
    clash k a b = omega arith

pub at_nan : (x : Float) → x ≡ nan → x ≡ next_up_of x
unfolding next_up_of is_nan
at_nan x h = rw h

pub elsewhere : (x : Float) → is_nan x ≡ false → of_bits binary64 (next_bits (to_bits binary64 x)) ≡ next_up_of x
unfolding next_up_of
elsewhere x h = rw h

-- std's next float, by bit patterns too, is this one
std_bits : (x : Float) (n : ℕ) → of_bits binary64 n ≡ x → n < 0x1_0000_0000_0000_0000 → Plain n → next_up_by_bits binary64 x n ≡ of_bits binary64 (next_bits n)
std_bits x n e w p = elim (ℕ_discrete n 0x7ff0_0000_0000_0000) [
  | yes is ↦ rw (eq-eqb n 0x7ff0_0000_0000_0000 is, le-ltb n 0x7ff0_0000_0000_0000 (omega arith)) (sym e)
  | no other ↦
      let not_inf = ne_eqb n 0x7ff0_0000_0000_0000 other in
      elim (dec_lt n 0x7ff0_0000_0000_0000) [
        | yes below ↦ elim (ℕ_discrete n 0) [
          | yes zero ↦
              rw (not_inf, eq-eqb (n % 0x8000_0000_0000_0000) 0 (omega arith), lt-ltb n 0x7ff0_0000_0000_0000 below)
              (ap (of_bits binary64) (one n zero))
          | no above ↦
              rw (not_inf, ne_eqb (n % 0x8000_0000_0000_0000) 0 (λ h. omega arith), eq-eqb n (n % 0x8000_0000_0000_0000) (omega arith), lt-ltb n 0x7ff0_0000_0000_0000 below)
        ]
        | no minus ↦ elim (ℕ_discrete n 0x8000_0000_0000_0000) [
          | yes zero ↦
              rw (not_inf, eq-eqb (n % 0x8000_0000_0000_0000) 0 (omega arith), le-ltb n 0x7ff0_0000_0000_0000 (omega arith), eq-eqb n 0x8000_0000_0000_0000 zero)
          | no below ↦
              rw (not_inf, ne_eqb (n % 0x8000_0000_0000_0000) 0 (λ h. omega arith), ne_eqb n (n % 0x8000_0000_0000_0000) (λ h. omega arith), le-ltb n 0x7ff0_0000_0000_0000 (omega arith), ne_eqb n 0x8000_0000_0000_0000 below)
        ]
      ]
]
  where
    one : (n : ℕ) → n ≡ 0 → 1 ≡ n + 1
    one n h = omega arith

nan_is : (x : Float) → is_nan x ≡ true → x ≡ nan
unfolding is_nan
nan_is nan e = refl
nan_is (inf s) e = absurd (true≢false (sym e))
nan_is (fin s m k) e = absurd (true≢false (sym e))

pub std_next : (x : Float) → T (fits binary64 x) → next_up binary64 x ≡ next_up_of x
unfolding next_up_of
std_next x f = go (is_nan x) refl
  where
    go : (b : Bool) → is_nan x ≡ b → cond b x (next_up_by_bits binary64 x (to_bits binary64 x)) ≡ cond b nan (of_bits binary64 (next_bits (to_bits binary64 x)))
    go true e = nan_is x e
    go false e =
        let back = of_bits-to_bits binary64 x f in
        std_bits x (to_bits binary64 x) back (to_bits-lt binary64 x f) (plain (to_bits binary64 x) (nan_bits_is binary64 (to_bits binary64 x) ∙ ap is_nan back ∙ e))
