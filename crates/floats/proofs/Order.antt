-- The order of the floats that are numbers: `le` is total and transitive, and two values that are each at most the other are equal, which for values of a
-- format means the same value or two zeros.
-- `lt x y` is that `le y x` fails. Nothing is asked of the operands but that they are no NaN, and where two are compared that follows. Assumes nothing.
use mathlib.Core.Path.{◌≡◌, refl, sym, ap, ◌∙◌, subst}
use mathlib.Core.Logic.{◌⊎◌, inl, inr}
use Prim.Native.Nat.{ℕ, zero, suc, ◌+◌, ◌*◌, ◌^◌, ◌≤◌, ◌<◌}
use native.Mathlib.Nat.{mul-le-mul_right, le_of_mul-le-mul_right, lt_of_not-le, mul-pos, zero-lt-suc, pow-suc}
use native.Mathlib.Omega.{arith}
use borrow.Author.Tests.{eq-eqb}
use mathlib.Core.Bool.{Bool, true, false, not, ◌||◌, beq, true≢false}
use lib.IntN.{ℤ, pos, negsuc}
use lib.Dec.{T, eqb, eqb→eq}
use lib.Ieee.{Float, nan, inf, fin, Format, is_nan, up, down, neg, lt, le, eq, fits, of_bits, to_bits, low, below, level}
use lib.Ieee.Fits.{up_pos, down_pos, and_l, and_r}
use lib.Ieee.Nearest.{div_same}
use lib.Ieee.Bits.{of_bits-to_bits}
use Rattle.floats.specs.Next.{zero_of}
use Rattle.floats.proofs.Parts.{part, Cross≤, crossed, uncrossed, or_split, or_left, or_right, parts_le, le_parts, below_parts, parts_below}

-- ---- what is compared is no NaN
pub le_left : (x y : Float) → T (le x y) → is_nan x ≡ false
unfolding le is_nan
le_left nan y h = absurd h
le_left (inf s) y h = refl
le_left (fin s m e) y h = refl

pub le_right : (x y : Float) → T (le x y) → is_nan y ≡ false
unfolding le is_nan
le_right nan y h = absurd h
le_right (inf s) nan h = absurd h
le_right (inf s) (inf t) h = refl
le_right (inf s) (fin t n d) h = refl
le_right (fin s m e) nan h = absurd h
le_right (fin s m e) (inf t) h = refl
le_right (fin s m e) (fin t n d) h = refl

-- ---- `lt x y` is that `le y x` fails
differ : (a b : Bool) → (T a → T b → ⊥) → ((T b → ⊥) → T a) → a ≡ not b
differ true true p q = absurd (p tt tt)
differ true false p q = refl
differ false true p q = refl
differ false false p q = absurd (q (λ t. t))

below_is : (s t : Bool) (a b : ℕ) → below s a t b ≡ not (below t b s a || level t b s a)
below_is s t a b =
    differ (below s a t b) (below t b s a || level t b s a)
    (λ h k. clash (part s a) (part (not s) a) (part t b) (part (not t) b) (below_parts s t a b h) (parts_le t s b a k))
    (λ h. parts_below s t a b (other (part s a) (part (not s) a) (part t b) (part (not t) b) (λ k. h (le_parts t s b a k))))
  where
    clash : (p q x y : ℕ) → p + y < x + q → x + q ≤ p + y → ⊥
    clash p q x y h k = omega arith

    other : (p q x y : ℕ) → (x + q ≤ p + y → ⊥) → p + y < x + q
    other p q x y h = lt_of_not-le h

pub lt_is_not_le : (x y : Float) → is_nan x ≡ false → is_nan y ≡ false → lt x y ≡ not (le y x)
unfolding lt le is_nan
lt_is_not_le nan y p q = absurd (true≢false p)
lt_is_not_le (inf s) nan p q = absurd (true≢false q)
lt_is_not_le (inf true) (inf true) p q = refl
lt_is_not_le (inf true) (inf false) p q = refl
lt_is_not_le (inf false) (inf true) p q = refl
lt_is_not_le (inf false) (inf false) p q = refl
lt_is_not_le (inf true) (fin t n d) p q = refl
lt_is_not_le (inf false) (fin t n d) p q = refl
lt_is_not_le (fin s m e) nan p q = absurd (true≢false q)
lt_is_not_le (fin s m e) (inf true) p q = refl
lt_is_not_le (fin s m e) (inf false) p q = refl
lt_is_not_le (fin s m e) (fin t n d) p q = below_is s t (m * up e * down d) (n * up d * down e)

pub lt_le : (x y : Float) → T (lt x y) → T (le x y)
unfolding le
lt_le x y h = or_left (lt x y) (eq x y) h

pub eq_le : (x y : Float) → T (eq x y) → T (le x y)
unfolding le
eq_le x y h = or_right (lt x y) (eq x y) h

pub lt_not_le : (x y : Float) → T (lt x y) → T (le y x) → ⊥
lt_not_le x y h k = clash (le y x) (subst T (lt_is_not_le x y (le_left x y (lt_le x y h)) (le_right x y (lt_le x y h))) h) k
  where
    clash : (b : Bool) → T (not b) → T b → ⊥
    clash true h k = h
    clash false h k = k

-- ---- total
pub le_total : (x y : Float) → is_nan x ≡ false → is_nan y ≡ false → T (le x y) ⊎ T (le y x)
le_total x y p q = go (le y x) refl
  where
    go : (b : Bool) → le y x ≡ b → T (le x y) ⊎ T (le y x)
    go true e = inr (subst T (sym e) tt)
    go false e = inl (lt_le x y (subst T (sym (lt_is_not_le x y p q ∙ ap not e)) tt))

pub le_refl : (x : Float) → is_nan x ≡ false → T (le x x)
le_refl x p = elim (le_total x x p p) [ inl h ↦ h | inr h ↦ h ]

-- ---- between the infinities
pub minus_inf_le : (z : Float) → is_nan z ≡ false → T (le (inf true) z)
unfolding le is_nan
minus_inf_le nan p = absurd (true≢false p)
minus_inf_le (inf true) p = tt
minus_inf_le (inf false) p = tt
minus_inf_le (fin s m e) p = tt

pub le_plus_inf : (z : Float) → is_nan z ≡ false → T (le z (inf false))
unfolding le is_nan
le_plus_inf nan p = absurd (true≢false p)
le_plus_inf (inf true) p = tt
le_plus_inf (inf false) p = tt
le_plus_inf (fin s m e) p = tt

-- ---- transitive
top : (s : Bool) (m : ℕ) (e : ℤ) (z : Float) → T (le (inf false) z) → T (le (fin s m e) z)
unfolding le
top s m e nan h = h
top s m e (inf true) h = absurd h
top s m e (inf false) h = tt
top s m e (fin t n d) h = absurd h

-- x ≤ y ≤ z, as x = (xp - xq) / xd and so on: the denominator in the middle is cancelled
chain : (xp xq xd yp yq yd zp zq zd : ℕ) → 0 < yd → xp * yd + yq * xd ≤ yp * xd + xq * yd → yp * zd + zq * yd ≤ zp * yd + yq * zd → xp * zd + zq * xd ≤ zp * xd + xq * zd
chain xp xq xd yp yq yd zp zq zd D h k = le_of_mul-le-mul_right {k = yd} (omega (arith, mul-le-mul_right zd h, mul-le-mul_right xd k)) D

pub le_trans : (x y z : Float) → T (le x y) → T (le y z) → T (le x z)
unfolding le
le_trans nan y z h k = absurd h
le_trans (inf true) y z h k = minus_inf_le z (le_right y z k)
le_trans (inf false) nan z h k = absurd h
le_trans (inf false) (inf true) z h k = absurd h
le_trans (inf false) (inf false) z h k = k
le_trans (inf false) (fin t n d) z h k = absurd h
le_trans (fin s m e) nan z h k = absurd h
le_trans (fin s m e) (inf true) z h k = absurd h
le_trans (fin s m e) (inf false) z h k = top s m e z k
le_trans (fin s m e) (fin t n d) nan h k = absurd k
le_trans (fin s m e) (fin t n d) (inf true) h k = absurd k
le_trans (fin s m e) (fin t n d) (inf false) h k = tt
le_trans (fin s m e) (fin t n d) (fin u l g) h k =
    uncrossed s m e u l g
    (chain (part s (m * up e)) (part (not s) (m * up e)) (down e) (part t (n * up d)) (part (not t) (n * up d)) (down d) (part u (l * up g)) (part (not u) (l * up g)) (down g)
    (down_pos d) (crossed s m e t n d h) (crossed t n d u l g k))

pub lt_le_trans : (x y z : Float) → T (lt x y) → T (le y z) → T (lt x z)
lt_le_trans x y z h k = go (le z x) refl
  where
    p : is_nan x ≡ false
    p = le_left x y (lt_le x y h)

    q : is_nan z ≡ false
    q = le_right y z k

    go : (b : Bool) → le z x ≡ b → T (lt x z)
    go true e = absurd (lt_not_le x y h (le_trans y z x k (subst T (sym e) tt)))
    go false e = subst T (sym (lt_is_not_le x z p q ∙ ap not e)) tt

pub le_lt_trans : (x y z : Float) → T (le x y) → T (lt y z) → T (lt x z)
le_lt_trans x y z h k = go (le z x) refl
  where
    p : is_nan x ≡ false
    p = le_left x y h

    q : is_nan z ≡ false
    q = le_right y z (lt_le y z k)

    go : (b : Bool) → le z x ≡ b → T (lt x z)
    go true e = absurd (lt_not_le y z k (le_trans z x y (subst T (sym e) tt) h))
    go false e = subst T (sym (lt_is_not_le x z p q ∙ ap not e)) tt

-- ---- antisymmetric: each at most the other are equal
pub le_antisym : (x y : Float) → T (le x y) → T (le y x) → T (eq x y)
unfolding le
le_antisym x y h k = elim (or_split (lt x y) (eq x y) h) [ inl l ↦ absurd (lt_not_le x y l k) | inr e ↦ e ]

pub eq_sym : (x y : Float) → T (eq x y) → T (eq y x)
unfolding eq
eq_sym nan y h = absurd h
eq_sym (inf s) nan h = absurd h
eq_sym (inf true) (inf true) h = tt
eq_sym (inf true) (inf false) h = h
eq_sym (inf false) (inf true) h = h
eq_sym (inf false) (inf false) h = tt
eq_sym (inf s) (fin t n d) h = h
eq_sym (fin s m e) nan h = h
eq_sym (fin s m e) (inf t) h = h
eq_sym (fin s m e) (fin t n d) h = go s t (m * up e * down d) (n * up d * down e) h
  where
    flip : (a b : ℕ) → T (eqb a b) → eqb b a ≡ true
    flip a b h = eq-eqb b a (sym (eqb→eq a b h))

    go : (s t : Bool) (a b : ℕ) → T (level s a t b) → T (level t b s a)
    go true true a b h = rw (flip a b (and_l (eqb a b) true h)) tt
    go false false a b h = rw (flip a b (and_l (eqb a b) true h)) tt
    go true false a b h = rw (flip a b (and_l (eqb a b) (eqb a 0) h), eq-eqb b 0 (sym (eqb→eq a b (and_l (eqb a b) (eqb a 0) h)) ∙ eqb→eq a 0 (and_r (eqb a b) (eqb a 0) h))) tt
    go false true a b h = rw (flip a b (and_l (eqb a b) (eqb a 0) h), eq-eqb b 0 (sym (eqb→eq a b (and_l (eqb a b) (eqb a 0) h)) ∙ eqb→eq a 0 (and_r (eqb a b) (eqb a 0) h))) tt

-- ---- negation turns the order round
pub neg_le : (x y : Float) → T (le x y) → T (le (neg y) (neg x))
unfolding le neg
neg_le nan y h = absurd h
neg_le (inf s) nan h = absurd h
neg_le (inf true) (inf true) h = tt
neg_le (inf true) (inf false) h = tt
neg_le (inf false) (inf true) h = absurd h
neg_le (inf false) (inf false) h = tt
neg_le (inf true) (fin t n d) h = tt
neg_le (inf false) (fin t n d) h = absurd h
neg_le (fin s m e) nan h = absurd h
neg_le (fin s m e) (inf true) h = absurd h
neg_le (fin s m e) (inf false) h = tt
neg_le (fin s m e) (fin t n d) h = uncrossed (not t) n d (not s) m e (flip s t (m * up e) (down e) (n * up d) (down d) (crossed s m e t n d h))
  where
    flip : (s t : Bool) (a p b q : ℕ) → Cross≤ s a p t b q → Cross≤ (not t) b q (not s) a p
    flip true true a p b q h = omega arith
    flip true false a p b q h = omega arith
    flip false true a p b q h = omega arith
    flip false false a p b q h = omega arith

-- ---- a zero of a format is +0 or -0
no_exponent : (e : ℤ) → up e * down e ≡ 1 → e ≡ pos 0
no_exponent (pos zero) h = refl
no_exponent (pos (suc k)) h = absurd (clash (2 ^ k) (sym (ap (λ (z : ℕ). z * 1) (pow-suc 2 k)) ∙ h))
  where
    clash : (p : ℕ) → p * 2 * 1 ≡ 1 → ⊥
    clash p h = omega arith
no_exponent (negsuc k) h = absurd (clash (2 ^ k) (sym (ap (λ (z : ℕ). 1 * z) (pow-suc 2 k)) ∙ h))
  where
    clash : (p : ℕ) → 1 * (p * 2) ≡ 1 → ⊥
    clash p h = omega arith

pub zero_is : (f : Format) (s : Bool) (e : ℤ) → T (fits f (fin s 0 e)) → fin s 0 e ≡ zero_of s
unfolding fits
zero_is f s e h = ap (fin s 0) (no_exponent e (eqb→eq (up e * down e) 1 h))

pub zeros_alike : (s t : Bool) → T (eq (zero_of s) (zero_of t))
unfolding eq
zeros_alike true true = tt
zeros_alike true false = tt
zeros_alike false true = tt
zeros_alike false false = tt

pub zero_either : (f : Format) (x : Float) → T (fits f x) → T (eq x (zero_of false)) → (s : Bool) × (x ≡ zero_of s)
unfolding eq
zero_either f nan p h = absurd h
zero_either f (inf s) p h = absurd h
zero_either f (fin s zero e) p h = (s, zero_is f s e p)
zero_either f (fin s (suc m) e) p h = absurd (clash (suc m * up e) (down e) (mul-pos (zero-lt-suc m) (up_pos e)) (eqb→eq a b (and_l (eqb a b) (beq s false || eqb a 0) h)))
  where
    a : ℕ
    a = suc m * up e * 1

    b : ℕ
    b = 0 * 1 * down e

    clash : (k d : ℕ) → 0 < k → k * 1 ≡ 0 * 1 * d → ⊥
    clash k d h w = omega arith

-- ---- equal values of a format are one value, or two zeros
module _ (f : Format) where
  -- a value's pattern turns only on its sign and its size
  same_bits : (s : Bool) (m : ℕ) (e : ℤ) (n : ℕ) (d : ℤ) → m * up e * down d ≡ n * up d * down e → to_bits f (fin s m e) ≡ to_bits f (fin s n d)
  unfolding to_bits
  same_bits s m e n d h =
      rw (div_same (m * up e * 2 ^ low f) (down e) (n * up d * 2 ^ low f) (down d) (down_pos e) (down_pos d) (scaled (m * up e) (down d) (n * up d) (down e) (2 ^ low f) h))
    where
      scaled : (a q b p l : ℕ) → a * q ≡ b * p → a * l * q ≡ b * l * p
      scaled a q b p l h = let k : a * q * l ≡ b * p * l = ap (λ (z : ℕ). z * l) h in omega arith

  zero_size : (s : Bool) (m : ℕ) (e : ℤ) (q : ℕ) → 0 < q → m * up e * q ≡ 0 → T (eq (fin s m e) (zero_of false))
  unfolding eq
  zero_size s m e q Q h = rw (vanish (m * up e) Q h, nothing (down e)) (either s)
    where
      vanish : (a : ℕ) → 0 < q → a * q ≡ 0 → a * 1 ≡ 0
      vanish zero Q h = refl
      vanish (suc a) Q h = omega (arith, mul-pos (zero-lt-suc a) Q)

      nothing : (d : ℕ) → 0 * 1 * d ≡ 0
      nothing d = omega arith

      either : (s : Bool) → T (level s 0 false 0)
      either true = tt
      either false = tt

  pub eq_same : (x y : Float) → T (fits f x) → T (fits f y) → T (eq x y) → (x ≡ y) ⊎ (T (eq x (zero_of false)) × T (eq y (zero_of false)))
  unfolding eq
  eq_same nan y p q h = absurd h
  eq_same (inf s) nan p q h = absurd h
  eq_same (inf true) (inf true) p q h = inl refl
  eq_same (inf true) (inf false) p q h = absurd h
  eq_same (inf false) (inf true) p q h = absurd h
  eq_same (inf false) (inf false) p q h = inl refl
  eq_same (inf s) (fin t n d) p q h = absurd h
  eq_same (fin s m e) nan p q h = absurd h
  eq_same (fin s m e) (inf t) p q h = absurd h
  eq_same (fin s m e) (fin t n d) p q h = go s t p q (or_split (beq s t) (eqb a 0) (and_r (eqb a b) (beq s t || eqb a 0) h))
    where
      a : ℕ
      a = m * up e * down d

      b : ℕ
      b = n * up d * down e

      same : a ≡ b
      same = eqb→eq a b (and_l (eqb a b) (beq s t || eqb a 0) h)

      zeros : (s t : Bool) → a ≡ 0 → T (eq (fin s m e) (zero_of false)) × T (eq (fin t n d) (zero_of false))
      zeros s t z = (zero_size s m e (down d) (down_pos d) z, zero_size t n d (down e) (down_pos e) (sym same ∙ z))

      one : (s : Bool) → T (fits f (fin s m e)) → T (fits f (fin s n d)) → fin s m e ≡ fin s n d
      one s p q = sym (of_bits-to_bits f (fin s m e) p) ∙ ap (of_bits f) (same_bits s m e n d same) ∙ of_bits-to_bits f (fin s n d) q

      go : (s t : Bool) → T (fits f (fin s m e)) → T (fits f (fin t n d)) → T (beq s t) ⊎ T (eqb a 0)
          → (fin s m e ≡ fin t n d) ⊎ (T (eq (fin s m e) (zero_of false)) × T (eq (fin t n d) (zero_of false)))
      go s t p q (inr z) = inr (zeros s t (eqb→eq a 0 z))
      go true true p q (inl w) = inl (one true p q)
      go true false p q (inl w) = absurd w
      go false true p q (inl w) = absurd w
      go false false p q (inl w) = inl (one false p q)
