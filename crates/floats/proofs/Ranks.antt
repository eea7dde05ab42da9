-- The order of the floats that are numbers is the order of their ranks, so a fact of the order is one of arithmetic. Assumes nothing.
use mathlib.Core.Path.{◌≡◌, refl, subst}
use mathlib.Core.Logic.{inl, inr}
use Prim.Native.Nat.{ℕ, ◌≤◌}
use native.Mathlib.Nat.{eq-or-lt_of_le}
use native.Mathlib.Omega.{arith}
use mathlib.Core.Bool.{Bool, true, false, ◌||◌, or-true}
use lib.Dec.{T, ltb, leb, eqb, ltb→lt, lt→ltb, leb→le, le→leb, eqb→eq, eqb_refl}
use lib.Ieee.{Float, binary64, is_nan, fits, of_bits, to_bits, lt, le, eq}
use lib.Ieee.Bits.{of_bits-to_bits}
use borrow.Author.Tests.{ltb-true, eqb-true, eq-eqb, lt-ltb}
use Rattle.floats.proofs.Parts.{same}
use Rattle.floats.proofs.Keys.{key_lt, lt_key, eq_key, plain_bits}
use Rattle.floats.proofs.Least.{rank, eq_rank}

-- a number: the format holds it, and it is no NaN
abbrev pub Number : Float → Type 0
Number x = T (fits binary64 x) × (is_nan x ≡ false)

module _ (x y : Float) (p : Number x) (q : Number y) where
  via : (P : Float → Float → Bool) → T (P (of_bits binary64 (to_bits binary64 x)) (of_bits binary64 (to_bits binary64 y))) → T (P x y)
  via P h = rw (of_bits-to_bits binary64 x p.0, of_bits-to_bits binary64 y q.0) at h

  back : (P : Float → Float → Bool) → T (P x y) → T (P (of_bits binary64 (to_bits binary64 x)) (of_bits binary64 (to_bits binary64 y)))
  back P h = rw (of_bits-to_bits binary64 x p.0, of_bits-to_bits binary64 y q.0) h

  pub lt_is : lt x y ≡ ltb (rank x) (rank y)
  lt_is =
      same (lt x y) (ltb (rank x) (rank y))
      (λ t. lt→ltb (rank x) (rank y) (key_lt (to_bits binary64 x) (to_bits binary64 y) (plain_bits x p.0 p.1) (plain_bits y q.0 q.1) (back lt t)))
      (λ t. via lt (lt_key (to_bits binary64 x) (to_bits binary64 y) (plain_bits x p.0 p.1) (plain_bits y q.0 q.1) (ltb→lt (rank x) (rank y) t)))

  pub eq_is : eq x y ≡ eqb (rank x) (rank y)
  eq_is =
      same (eq x y) (eqb (rank x) (rank y))
      (λ t. subst (λ (z : ℕ). T (eqb (rank x) z)) (eq_rank x y p.0 q.0 t) (eqb_refl (rank x)))
      (λ t. via eq (eq_key (to_bits binary64 x) (to_bits binary64 y) (plain_bits x p.0 p.1) (plain_bits y q.0 q.1) (eqb→eq (rank x) (rank y) t)))

  pub le_is : le x y ≡ leb (rank x) (rank y)
  unfolding le
  le_is = rw (lt_is, eq_is) (either (rank x) (rank y))
    where
      either : (a b : ℕ) → (ltb a b || eqb a b) ≡ leb a b
      either a b = same (ltb a b || eqb a b) (leb a b) (λ t. le→leb a b (low (ltb a b) (eqb a b) refl refl t)) (λ t. high (leb→le a b t))
        where
          low : (x y : Bool) → ltb a b ≡ x → eqb a b ≡ y → T (x || y) → a ≤ b
          low true y p q t = omega (arith, ltb-true)
          low false true p q t = omega (arith, eqb-true)
          low false false p q t = absurd t

          high : a ≤ b → T (ltb a b || eqb a b)
          high h = elim (eq-or-lt_of_le h) [ inl e ↦ rw (eq-eqb a b e, or-true (ltb a b)) tt | inr l ↦ rw (lt-ltb a b l) tt ]

pub le_trans : (x y z : Float) → Number x → Number y → Number z → T (le x y) → T (le y z) → T (le x z)
le_trans x y z p q r h k = rw (le_is x z p r) (omega (arith, leb→le, le→leb, rw (le_is x y p q) at h, rw (le_is y z q r) at k))
