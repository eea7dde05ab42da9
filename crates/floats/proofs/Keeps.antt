-- Rounding keeps the order: of two values the larger gives no smaller difference from a finite number, quotient by a finite number above zero, and product
-- with a finite number that is not below zero.
-- In every format and at all signs, zeros and overflow included. Assumes nothing.
use mathlib.Core.Path.{◌≡◌, refl, sym, ap, ◌∙◌, subst}
use mathlib.Core.Logic.{inl, inr}
use Prim.Native.Nat.{ℕ, zero, suc, ◌+◌, ◌-◌, ◌*◌, ◌^◌, ◌≤◌, ◌<◌}
use native.Mathlib.Nat.{mul-zero as mul-zero-nat, mul-le-mul_right, mul-pos, zero-lt-suc, zero-mul, le_of_eq}
use native.Mathlib.Omega.{arith}
use mathlib.Core.Bool.{Bool, true, false, not, cond, true≢false}
use lib.IntN.{ℤ, pos}
use lib.Dec.{T, ltb, eqb-suc-zero}
use borrow.Author.Tests.{ltb-true, ltb-false}
use lib.Ieee.{Float, nan, inf, fin, Format, prec, emax, low, unlike, up, down, odd, units, round, sum, sub, neg, mul, div, is_nan, le, eq, level}
use lib.Ieee.Fits.{up_pos, down_pos, round_is}
use lib.Ieee.Order.{round_mono, kept, drop}
use lib.Ieee.Scale.{finite}
use lib.Ieee.Positive.{positive}
use Rattle.floats.specs.Next.{zero_of}
use Rattle.floats.proofs.Parts.{part, part_mul, Cross≤, crossed, uncrossed}
use Rattle.floats.proofs.Order.{minus_inf_le, le_plus_inf, le_left, le_refl, le_trans, eq_le, eq_sym, neg_le, zeros_alike}
use Rattle.floats.proofs.Rise.{Under, Nonneg, round_under, round_zero, round_plain}

-- ---- the sign that `round` is given
units_neg : (f : Format) (q k : ℕ) → units f true q k ≡ neg (units f false q k)
unfolding units odd neg
units_neg f q k = go (ltb (q * 2 ^ k) (2 ^ (low f + suc (emax f))))
  where
    at-odd : (q : ℕ) → odd (suc (prec f)) true q k (low f) ≡ neg (odd (suc (prec f)) false q k (low f))
    at-odd zero = refl
    at-odd (suc q) = refl

    go : (b : Bool) → cond b (odd (suc (prec f)) true q k (low f)) (inf true) ≡ neg (cond b (odd (suc (prec f)) false q k (low f)) (inf false))
    go true = at-odd q
    go false = refl

pub round_neg : (f : Format) (a c : ℕ) → round f true a c ≡ neg (round f false a c)
round_neg f a c = round_is f true a c ∙ units_neg f (kept (prec f) (a * 2 ^ low f) c) (drop (prec f) (a * 2 ^ low f) c) ∙ ap neg (sym (round_is f false a c))

-- ---- a fraction that is 0 rounds to a zero
under_zero : (x : Float) → Under x (zero_of false) → T (eq x (zero_of false))
unfolding eq
under_zero nan h = h
under_zero (inf s) h = h
under_zero (fin s m e) h = rw (none (m * up e) (down e) h, nothing (down e)) (either s)
  where
    none : (a d : ℕ) → a * 1 ≤ 0 * d → a * 1 ≡ 0
    none a d h = omega arith

    nothing : (d : ℕ) → 0 * 1 * d ≡ 0
    nothing d = omega arith

    either : (s : Bool) → T (level s 0 false 0)
    either true = tt
    either false = tt

round_none : (f : Format) (s : Bool) (c : ℕ) → 0 < c → T (eq (round f s 0 c) (zero_of false))
round_none f s c C =
    under_zero (round f s 0 c)
    (subst (λ (v : Float). Under (round f s 0 c) v) (round_zero f) (round_under f s false 0 c 0 1 C (zero-lt-suc 0) (le_of_eq (zero-mul 1 ∙ sym (zero-mul c)))))

zeros_le : (x y : Float) → T (eq x (zero_of false)) → T (eq y (zero_of false)) → T (le x y)
zeros_le x y p q = le_trans x (zero_of false) y (eq_le x (zero_of false) p) (eq_le (zero_of false) y (eq_sym y (zero_of false) q))

-- ---- so `round` keeps the order of fractions with signs
nonneg_le : (x : Float) → Nonneg x → T (le (zero_of false) x)
unfolding le
nonneg_le nan h = absurd h
nonneg_le (inf true) h = absurd (true≢false h)
nonneg_le (inf false) h = tt
nonneg_le (fin true m e) (inl h) = absurd (true≢false h)
nonneg_le (fin true m e) (inr h) = uncrossed false 0 (pos 0) true m e (rw h (none (up e) (down e)))
  where
    none : (u d : ℕ) → 0 * 1 * d + 0 * u * 1 ≤ 0 * 1 + 0 * d
    none u d = omega arith
nonneg_le (fin false m e) h = uncrossed false 0 (pos 0) false m e (least (m * up e) (down e))
  where
    least : (a d : ℕ) → 0 * 1 * d + 0 * 1 ≤ a * 1 + 0 * d
    least a d = omega arith

neg_under : (x y : Float) → Nonneg x → Nonneg y → T (le (neg x) y)
unfolding neg
neg_under x y p q =
    le_trans (neg x) (zero_of true) y (neg_le (zero_of false) x (nonneg_le x p))
    (le_trans (zero_of true) (zero_of false) y (eq_le (zero_of true) (zero_of false) (zeros_alike true false)) (nonneg_le y q))

pub round_keeps : (f : Format) (s : Bool) (a p : ℕ) (t : Bool) (b q : ℕ) → 0 < p → 0 < q → Cross≤ s a p t b q → T (le (round f s a p) (round f t b q))
round_keeps f false a p false b q P Q h = round_mono f a p b q P Q (omega arith)
round_keeps f false a p true b q P Q h =
    rw (none a q Q (omega arith), none b p P (omega arith)) (zeros_le (round f false 0 p) (round f true 0 q) (round_none f false p P) (round_none f true q Q))
  where
    none : (a q : ℕ) → 0 < q → a * q ≡ 0 → a ≡ 0
    none zero q Q h = refl
    none (suc a) q Q h = omega (arith, mul-pos (zero-lt-suc a) Q)
round_keeps f true a p false b q P Q h = rw (round_neg f a p) (neg_under (round f false a p) (round f false b q) (round_plain f a p) (round_plain f b q))
round_keeps f true a p true b q P Q h =
    rw (round_neg f a p, round_neg f b q) (neg_le (round f false b q) (round f false a p) (round_mono f b q a p Q P (omega arith)))

-- ---- what keeps the order of finite values, and the infinities, keeps the order
extend : (F : Float → Float) → ((s : Bool) → F (inf s) ≡ inf s)
    → ((s : Bool) (m : ℕ) (e : ℤ) (t : Bool) (n : ℕ) (d : ℤ) → T (le (fin s m e) (fin t n d)) → T (le (F (fin s m e)) (F (fin t n d))))
    → (x y : Float) → T (le x y) → T (le (F x) (F y))
unfolding le is_nan
extend F ends inner nan y h = absurd h
extend F ends inner (inf s) nan h = absurd h
extend F ends inner (inf s) (inf t) h = rw (ends s, ends t) h
extend F ends inner (inf true) (fin t n d) h = rw (ends true) (minus_inf_le (F (fin t n d)) (le_left (F (fin t n d)) (F (fin t n d)) (inner t n d t n d (le_refl (fin t n d) refl))))
extend F ends inner (inf false) (fin t n d) h = absurd h
extend F ends inner (fin s m e) nan h = absurd h
extend F ends inner (fin s m e) (inf true) h = absurd h
extend F ends inner (fin s m e) (inf false) h = rw (ends false) (le_plus_inf (F (fin s m e)) (le_left (F (fin s m e)) (F (fin s m e)) (inner s m e s m e (le_refl (fin s m e) refl))))
extend F ends inner (fin s m e) (fin t n d) h = inner s m e t n d h

-- ---- differences: ±a + ±b over c, as one number with a sign
abbrev Total : Format → Bool → ℕ → Bool → ℕ → ℕ → Type 0
Total f s a t b c = (u : Bool) × (p : ℕ) × (sum f s a t b c ≡ round f u p c) × (part u p + (part (not s) a + part (not t) b) ≡ part (not u) p + (part s a + part t b))

total : (f : Format) (s : Bool) (a : ℕ) (t : Bool) (b c : ℕ) → Total f s a t b c
unfolding sum
total f true a true b c = (true, a + b, refl, omega arith)
total f false a false b c = (false, a + b, refl, omega arith)
total f true a false b c = go (ltb a b) refl
  where
    go : (x : Bool) → ltb a b ≡ x → Total f true a false b c
    go true e = (false, b - a, rw e, omega (arith, ltb-true a b e))
    go false e = back (ltb b a) refl
      where
        back : (y : Bool) → ltb b a ≡ y → Total f true a false b c
        back true h = (true, a - b, rw (e, h), omega (arith, ltb-true b a h))
        back false h = (false, a - b, rw (e, h), omega (arith, ltb-false a b e, ltb-false b a h))
total f false a true b c = go (ltb a b) refl
  where
    go : (x : Bool) → ltb a b ≡ x → Total f false a true b c
    go true e = (true, b - a, rw e, omega (arith, ltb-true a b e))
    go false e = (false, a - b, rw e, omega (arith, ltb-false a b e))

-- x - l ≤ y - l, from x ≤ y, where x = (xp - xq) / xd and so on, and the differences are u - v and w - z over xd * ld and yd * ld
shift : (u v w z xp xq xd yp yq yd lp lq ld : ℕ) → u + (xq * ld + lp * xd) ≡ v + (xp * ld + lq * xd) → w + (yq * ld + lp * yd) ≡ z + (yp * ld + lq * yd)
    → xp * yd + yq * xd ≤ yp * xd + xq * yd → u * (yd * ld) + z * (xd * ld) ≤ w * (xd * ld) + v * (yd * ld)
shift u v w z xp xq xd yp yq yd lp lq ld a b h =
    let a' : (u + (xq * ld + lp * xd)) * (yd * ld) ≡ (v + (xp * ld + lq * xd)) * (yd * ld) = ap (λ (i : ℕ). i * (yd * ld)) a in
    let b' : (w + (yq * ld + lp * yd)) * (xd * ld) ≡ (z + (yp * ld + lq * yd)) * (xd * ld) = ap (λ (i : ℕ). i * (xd * ld)) b in
    omega (arith, mul-le-mul_right (ld * ld) h)

abbrev Even : Bool → ℕ → Bool → ℕ → Bool → ℕ → Type 0
Even u p s a t b = part u p + (part (not s) a + part (not t) b) ≡ part (not u) p + (part s a + part t b)

even_mul : (u : Bool) (p : ℕ) (s : Bool) (a q : ℕ) (t : Bool) (b r : ℕ) → Even u p s (a * q) t (b * r)
    → part u p + (part (not s) a * q + part (not t) b * r) ≡ part (not u) p + (part s a * q + part t b * r)
even_mul u p s a q t b r h = rw (← part_mul s a q, ← part_mul (not s) a q, ← part_mul t b r, ← part_mul (not t) b r) h

unlike_plain : (s : Bool) → unlike s false ≡ s
unlike_plain true = refl
unlike_plain false = refl

module _ (f : Format) where
  sub_inner : (t : Bool) (n : ℕ) (d : ℤ) (s : Bool) (m : ℕ) (e : ℤ) (r : Bool) (k : ℕ) (g : ℤ) → T (le (fin s m e) (fin r k g))
      → T (le (sub f (fin s m e) (fin t n d)) (sub f (fin r k g) (fin t n d)))
  unfolding sub
  sub_inner t n d s m e r k g h =
      let x = total f s (m * up e * down d) (not t) (n * up d * down e) (down e * down d) in
      let y = total f r (k * up g * down d) (not t) (n * up d * down g) (down g * down d) in
      rw (x.2, y.2)
      (round_keeps f x.0 x.1 (down e * down d) y.0 y.1 (down g * down d) (mul-pos (down_pos e) (down_pos d)) (mul-pos (down_pos g) (down_pos d))
      (shift (part x.0 x.1) (part (not x.0) x.1) (part y.0 y.1) (part (not y.0) y.1) (part s (m * up e)) (part (not s) (m * up e))
      (down e) (part r (k * up g)) (part (not r) (k * up g)) (down g)
      (part (not (not t)) (n * up d)) (part (not t) (n * up d)) (down d)
      (even_mul x.0 x.1 s (m * up e) (down d) (not t) (n * up d) (down e) x.3)
      (even_mul y.0 y.1 r (k * up g) (down d) (not t) (n * up d) (down g) y.3) (crossed s m e r k g h)))

  pub sub_keeps : (x y l : Float) → T (finite l) → T (le x y) → T (le (sub f x l) (sub f y l))
  unfolding sub
  sub_keeps x y nan p h = absurd p
  sub_keeps x y (inf t) p h = absurd p
  sub_keeps x y (fin t n d) p h = extend (λ v. sub f v (fin t n d)) (λ s. refl) (sub_inner t n d) x y h

  div_inner : (n : ℕ) (d : ℤ) (s : Bool) (m : ℕ) (e : ℤ) (r : Bool) (k : ℕ) (g : ℤ) → T (le (fin s m e) (fin r k g))
      → T (le (div f (fin s m e) (fin false (suc n) d)) (div f (fin r k g) (fin false (suc n) d)))
  unfolding div
  div_inner n d s m e r k g h =
      rw (eqb-suc-zero n, unlike_plain s, unlike_plain r)
      (round_keeps f s (m * up e * down d) (suc n * up d * down e) r (k * up g * down d) (suc n * up d * down g)
      (mul-pos (mul-pos (zero-lt-suc n) (up_pos d)) (down_pos e)) (mul-pos (mul-pos (zero-lt-suc n) (up_pos d)) (down_pos g))
      (rw (part_mul s (m * up e) (down d), part_mul (not s) (m * up e) (down d), part_mul r (k * up g) (down d), part_mul (not r) (k * up g) (down d))
      (scaled (part s (m * up e)) (part (not s) (m * up e)) (down e) (part r (k * up g)) (part (not r) (k * up g)) (down g) (down d) (suc n * up d) (crossed s m e r k g h))))
    where
      scaled : (xp xq xd yp yq yd u v : ℕ) → xp * yd + yq * xd ≤ yp * xd + xq * yd → xp * u * (v * yd) + yq * u * (v * xd) ≤ yp * u * (v * xd) + xq * u * (v * yd)
      scaled xp xq xd yp yq yd u v h = omega (arith, mul-le-mul_right (u * v) h)

  pub div_keeps : (x y k : Float) → T (positive k) → T (le x y) → T (le (div f x k) (div f y k))
  unfolding div
  div_keeps x y nan p h = absurd p
  div_keeps x y (inf t) p h = absurd p
  div_keeps x y (fin true n d) p h = absurd p
  div_keeps x y (fin false zero d) p h = absurd p
  div_keeps x y (fin false (suc n) d) p h = extend (λ v. div f v (fin false (suc n) d)) (λ s. ap inf (unlike_plain s)) (div_inner n d) x y h

  mul_inner : (n : ℕ) (d : ℤ) (s : Bool) (m : ℕ) (e : ℤ) (r : Bool) (k : ℕ) (g : ℤ) → T (le (fin s m e) (fin r k g))
      → T (le (mul f (fin s m e) (fin false n d)) (mul f (fin r k g) (fin false n d)))
  unfolding mul
  mul_inner n d s m e r k g h =
      rw (unlike_plain s, unlike_plain r)
      (round_keeps f s (m * up e * (n * up d)) (down e * down d) r (k * up g * (n * up d)) (down g * down d) (mul-pos (down_pos e) (down_pos d)) (mul-pos (down_pos g) (down_pos d))
      (rw (part_mul s (m * up e) (n * up d), part_mul (not s) (m * up e) (n * up d), part_mul r (k * up g) (n * up d), part_mul (not r) (k * up g) (n * up d))
      (scaled (part s (m * up e)) (part (not s) (m * up e)) (down e) (part r (k * up g)) (part (not r) (k * up g)) (down g) (n * up d) (down d) (crossed s m e r k g h))))
    where
      scaled : (xp xq xd yp yq yd u v : ℕ) → xp * yd + yq * xd ≤ yp * xd + xq * yd → xp * u * (yd * v) + yq * u * (xd * v) ≤ yp * u * (xd * v) + xq * u * (yd * v)
      scaled xp xq xd yp yq yd u v h = omega (arith, mul-le-mul_right (u * v) h)

  pub mul_keeps_positive : (x y k : Float) → T (positive k) → T (le x y) → T (le (mul f x k) (mul f y k))
  unfolding mul
  mul_keeps_positive x y nan p h = absurd p
  mul_keeps_positive x y (inf t) p h = absurd p
  mul_keeps_positive x y (fin true n d) p h = absurd p
  mul_keeps_positive x y (fin false zero d) p h = absurd p
  mul_keeps_positive x y (fin false (suc n) d) p h = extend (λ v. mul f v (fin false (suc n) d)) (λ s. rw (eqb-suc-zero n) (ap inf (unlike_plain s))) (mul_inner (suc n) d) x y h

  -- by a zero, of either sign
  mul-zero : (t : Bool) (n : ℕ) (d : ℤ) (s : Bool) (m : ℕ) (e : ℤ) → n * up d ≡ 0 → T (eq (mul f (fin s m e) (fin t n d)) (zero_of false))
  unfolding mul
  mul-zero t n d s m e z = rw (z, mul-zero-nat (m * up e)) (round_none f (unlike s t) (down e * down d) (mul-pos (down_pos e) (down_pos d)))

  pub mul_keeps : (x y k : Float) → T (finite x) → T (finite y) → T (finite k) → T (le (zero_of false) k) → T (le x y) → T (le (mul f x k) (mul f y k))
  mul_keeps nan y k p q r z h = absurd p
  mul_keeps (inf s) y k p q r z h = absurd p
  mul_keeps (fin s m e) nan k p q r z h = absurd q
  mul_keeps (fin s m e) (inf t) k p q r z h = absurd q
  mul_keeps (fin s m e) (fin t n d) nan p q r z h = absurd r
  mul_keeps (fin s m e) (fin t n d) (inf u) p q r z h = absurd r
  mul_keeps (fin s m e) (fin t n d) (fin false k g) p q r z h = mul_inner k g s m e t n d h
  mul_keeps (fin s m e) (fin t n d) (fin true k g) p q r z h =
      let none : k * up g ≡ 0 = nothing (k * up g) (down g) (crossed false 0 (pos 0) true k g z) in
      zeros_le (mul f (fin s m e) (fin true k g)) (mul f (fin t n d) (fin true k g)) (mul-zero true k g s m e none) (mul-zero true k g t n d none)
    where
      nothing : (a d : ℕ) → 0 * 1 * d + a * 1 ≤ 0 * 1 + 0 * d → a ≡ 0
      nothing a d h = omega arith
