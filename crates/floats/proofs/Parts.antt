-- A number with a sign as its part above zero less its part below, so that the order of two such numbers is one inequality of natural numbers, whatever the signs. Assumes nothing.
use mathlib.Core.Path.{◌≡◌, refl, sym}
use mathlib.Core.Logic.{◌⊎◌, inl, inr}
use Prim.Native.Nat.{ℕ, zero, suc, ◌+◌, ◌*◌, ◌≤◌, ◌<◌}
use native.Mathlib.Nat.{le_of_eq, le_of_lt, zero-mul, eq-or-lt_of_le}
use native.Mathlib.Omega.{arith}
use mathlib.Core.Bool.{Bool, true, false, not, ◌&&◌, ◌||◌}
use lib.IntN.{ℤ}
use lib.Dec.{T, ltb, eqb, ltb→lt, lt→ltb, eqb→eq}
use lib.Ieee.{below, level, fin, up, down, le}
use lib.Ieee.Fits.{and_l, and_r, and_i, eq→eqb}

pub same : (a b : Bool) → (T a → T b) → (T b → T a) → a ≡ b
same true true p q = refl
same true false p q = absurd (p tt)
same false true p q = absurd (q tt)
same false false p q = refl

pub or_split : (a b : Bool) → T (a || b) → T a ⊎ T b
or_split true b t = inl tt
or_split false b t = inr t

pub or_left : (a b : Bool) → T a → T (a || b)
or_left true b t = tt
or_left false b t = absurd t

pub or_right : (a b : Bool) → T b → T (a || b)
or_right true b t = tt
or_right false b t = t

pub lt_or_eq : (a b : ℕ) (r : Bool) → T (ltb a b || (eqb a b && r)) → a ≤ b
lt_or_eq a b r t = elim (or_split (ltb a b) (eqb a b && r) t) [ inl u ↦ le_of_lt (ltb→lt a b u) | inr u ↦ le_of_eq (eqb→eq a b (and_l (eqb a b) r u)) ]

-- the part above zero of ±a; the part below is that of `not s`
abbrev pub part : Bool → ℕ → ℕ
part false a = a
part true a = 0

pub part_mul : (s : Bool) (a k : ℕ) → part s (a * k) ≡ part s a * k
part_mul false a k = refl
part_mul true a k = sym (zero-mul k)

-- ±a ≤ ±b
abbrev pub Signed≤ : Bool → ℕ → Bool → ℕ → Type 0
Signed≤ s a t b = part s a + part (not t) b ≤ part t b + part (not s) a

pub parts_le : (s t : Bool) (a b : ℕ) → T (below s a t b || level s a t b) → Signed≤ s a t b
parts_le false false a b h = omega (arith, lt_or_eq a b true h)
parts_le false true a b h = omega (arith, eqb→eq a b (and_l (eqb a b) (eqb a 0) h), eqb→eq a 0 (and_r (eqb a b) (eqb a 0) h))
parts_le true false a b h = omega arith
parts_le true true a b h = elim (or_split (ltb b a) (eqb a b && true) h) [ inl u ↦ omega (arith, ltb→lt b a u) | inr u ↦ omega (arith, eqb→eq a b (and_l (eqb a b) true u)) ]

pub le_parts : (s t : Bool) (a b : ℕ) → Signed≤ s a t b → T (below s a t b || level s a t b)
le_parts false false a b h = split (eq-or-lt_of_le (plain a b h))
  where
    plain : (a b : ℕ) → a + 0 ≤ b + 0 → a ≤ b
    plain a b h = omega arith

    split : (a ≡ b) ⊎ (a < b) → T (ltb a b || (eqb a b && true))
    split (inl e) = or_right (ltb a b) (eqb a b && true) (and_i (eqb a b) true (eq→eqb e) tt)
    split (inr l) = or_left (ltb a b) (eqb a b && true) (lt→ltb a b l)
le_parts false true a b h =
    let none : a ≡ 0 = omega arith in
    let same : a ≡ b = omega arith in
    and_i (eqb a b) (eqb a 0) (eq→eqb same) (eq→eqb none)
le_parts true false zero zero h = tt
le_parts true false zero (suc b) h = or_left (ltb 0 (0 + suc b)) (eqb 0 (suc b) && true) (lt→ltb 0 (0 + suc b) (omega arith))
le_parts true false (suc a) b h = or_left (ltb 0 (suc a + b)) (eqb (suc a) b && eqb (suc a) 0) (lt→ltb 0 (suc a + b) (omega arith))
le_parts true true a b h = split (eq-or-lt_of_le (plain a b h))
  where
    plain : (a b : ℕ) → 0 + b ≤ 0 + a → b ≤ a
    plain a b h = omega arith

    split : (b ≡ a) ⊎ (b < a) → T (ltb b a || (eqb a b && true))
    split (inl e) = or_right (ltb b a) (eqb a b && true) (and_i (eqb a b) true (eq→eqb (sym e)) tt)
    split (inr l) = or_left (ltb b a) (eqb a b && true) (lt→ltb b a l)

-- ±a < ±b
pub below_parts : (s t : Bool) (a b : ℕ) → T (below s a t b) → part s a + part (not t) b < part t b + part (not s) a
below_parts false false a b h = omega (arith, ltb→lt a b h)
below_parts false true a b h = absurd h
below_parts true false a b h = omega (arith, ltb→lt 0 (a + b) h)
below_parts true true a b h = omega (arith, ltb→lt b a h)

pub parts_below : (s t : Bool) (a b : ℕ) → part s a + part (not t) b < part t b + part (not s) a → T (below s a t b)
parts_below false false a b h = lt→ltb a b (omega arith)
parts_below false true a b h = none a b h
  where
    none : (a b : ℕ) → a + b < 0 + 0 → ⊥
    none a b h = omega arith
parts_below true false a b h = lt→ltb 0 (a + b) (omega arith)
parts_below true true a b h = lt→ltb b a (omega arith)

-- two finite values, each a part above zero less a part below, over a denominator
abbrev pub Cross≤ : Bool → ℕ → ℕ → Bool → ℕ → ℕ → Type 0
Cross≤ s a p t b q = part s a * q + part (not t) b * p ≤ part t b * p + part (not s) a * q

module _ (s : Bool) (m : ℕ) (e : ℤ) (t : Bool) (n : ℕ) (d : ℤ) where
  pub crossed : T (le (fin s m e) (fin t n d)) → Cross≤ s (m * up e) (down e) t (n * up d) (down d)
  unfolding le
  crossed h =
      rw (← part_mul s (m * up e) (down d), ← part_mul (not t) (n * up d) (down e), ← part_mul t (n * up d) (down e), ← part_mul (not s) (m * up e) (down d))
      (parts_le s t (m * up e * down d) (n * up d * down e) h)

  pub uncrossed : Cross≤ s (m * up e) (down e) t (n * up d) (down d) → T (le (fin s m e) (fin t n d))
  unfolding le
  uncrossed h =
      le_parts s t (m * up e * down d) (n * up d * down e)
      (rw (part_mul s (m * up e) (down d), part_mul (not t) (n * up d) (down e), part_mul t (n * up d) (down e), part_mul (not s) (m * up e) (down d)) h)
