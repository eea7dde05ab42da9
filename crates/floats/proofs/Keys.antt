-- The order of the 64-bit patterns that are no NaN's is the order of a number, `key`: patterns count up from +0, and down from -0. Assumes nothing.
use mathlib.Core.Path.{◌≡◌, refl, sym, ap, ◌∙◌, subst}
use mathlib.Core.Logic.{◌⊎◌, inl, inr}
use Prim.Native.Nat.{ℕ, zero, suc, ◌+◌, ◌-◌, ◌*◌, ◌/◌, ◌%◌, ◌^◌, ◌≤◌, ◌<◌}
use native.Mathlib.Nat.{le_trans, le_of_eq, lt_of_lt_of_le, eq-or-lt_of_le, mod-eq_of_lt, mul_assoc, mul_comm, mul_right_comm, mul-one, mul-le-mul_right, mul-le-mul_left, mul-lt-mul_of_pos_right, lt_of_mul-lt-mul_right, mul-pos, pow-succ'}
use native.Mathlib.Omega.{arith}
use mathlib.Core.Bool.{Bool, true, false, cond, true≢false}
use lib.Dec.{T, ltb, leb, eqb, ltb→lt, lt→ltb}
use borrow.Author.Tests.{lt-leb, le-leb, ne_eqb, ltb-true, ltb-false, lt-ltb, le-ltb}
use lib.IntN.{pos}
use lib.Pow.{pow_pos, pow_mono}
use lib.Ieee.{Float, nan, inf, fin, binary64, up, down, odd, of_fields, of_bits, lt, le, eq, neg, is_nan, fits, to_bits}
use lib.Ieee.Fits.{down_pos}
use lib.Ieee.Bits.{nan_bits_is, nan_bits_above, of_bits-to_bits, to_bits-lt}
use lib.Ieee.Exact.{HasValue, odd_sign}
use Rattle.floats.proofs.Order.{lt_le, eq_le, lt_not_le, le_refl, le_antisym}

-- 2 ^ 52, the infinity's pattern and the sign's bit
abbrev pub H : ℕ
H = 0x10_0000_0000_0000

abbrev pub INF : ℕ
INF = 0x7ff0_0000_0000_0000

abbrev pub TOP : ℕ
TOP = 0x8000_0000_0000_0000

of_bits_is : (b : ℕ) → of_bits binary64 b ≡ of_fields binary64 (leb TOP b) (b % TOP / H) (b % H)
unfolding of_bits
of_bits_is b = refl

at_zero : (s : Bool) (t : ℕ) → of_fields binary64 s 0 t ≡ odd 53 s t 0 1074
unfolding of_fields
at_zero s t = refl

at_field : (s : Bool) (x t : ℕ) → suc x < 2047 → of_fields binary64 s (suc x) t ≡ odd 53 s (H + t) x 1074
unfolding of_fields
at_field s x t h = rw (ne_eqb (suc x) 2047 (λ e. differ x h e))
  where
    differ : (x : ℕ) → suc x < 2047 → suc x ≡ 2047 → ⊥
    differ x h e = omega arith

-- ---- the patterns without the sign's bit
plain : (b : ℕ) → b < TOP → of_bits binary64 b ≡ of_fields binary64 false (b / H) (b % H)
plain b h = of_bits_is b ∙ rw (lt-leb TOP b h, mod-eq_of_lt h)

-- the number in units of 2 ^ -1074
abbrev pub val : ℕ → ℕ
val b = cond (ltb b H) b ((H + b % H) * 2 ^ (b / H - 1))

pub value : (b : ℕ) → b < INF → HasValue (of_bits binary64 b) false (val b) (2 ^ 1074)
value b h = rw (plain b (wide b h)) (go (ltb b H) refl)
  where
    wide : (b : ℕ) → b < INF → b < TOP
    wide b h = omega arith

    low : (b : ℕ) → b < H → (b / H ≡ 0) × (b % H ≡ b)
    low b h = (omega arith, omega arith)

    high : (b : ℕ) → H ≤ b → b < INF → (b / H ≡ suc (b / H - 1)) × (suc (b / H - 1) < 2047)
    high b h k = (omega arith, omega arith)

    go : (x : Bool) → ltb b H ≡ x → HasValue (of_fields binary64 false (b / H) (b % H)) false (cond x b ((H + b % H) * 2 ^ (b / H - 1))) (2 ^ 1074)
    go true e =
        let k = low b (ltb-true b H e) in
        rw (k.0, k.1, at_zero false b) (subst (λ (v : ℕ). HasValue (odd 53 false b 0 1074) false v (2 ^ 1074)) (mul-one b) (odd_sign 53 false b 0 1074))
    go false e =
        let k = high b (ltb-false b H e) h in
        subst (λ (z : ℕ). HasValue (of_fields binary64 false z (b % H)) false ((H + b % H) * 2 ^ (b / H - 1)) (2 ^ 1074)) (sym k.0)
        (rw (at_field false (b / H - 1) (b % H) k.1) (odd_sign 53 false (H + b % H) (b / H - 1) 1074))

-- below 2 * H the value is the pattern, and from H on it has a leading digit
val_low : (b : ℕ) → b < H → val b ≡ b
val_low b h = rw (lt-ltb b H h)

pub val_high : (b : ℕ) → H ≤ b → val b ≡ (H + b % H) * 2 ^ (b / H - 1)
val_high b h = rw (le-ltb b H h)

pub val_lt : (b c : ℕ) → b < c → val b < val c
val_lt b c h = go (ltb b H) (ltb c H) refl refl
  where
    crossing : (b c : ℕ) → b < c → H ≤ b → c < H → ⊥
    crossing b c h k l = omega arith

    over : (b q p : ℕ) → b < H → 0 < p → b < (H + q) * p
    over b q p h k = lt_of_lt_of_le h (le_trans (le_of_eq (sym (mul-one H))) (le_trans (mul-le-mul_left H k) (mul-le-mul_right p (grow H q))))
      where
        grow : (a b : ℕ) → a ≤ a + b
        grow a b = omega arith

    fields : (b c : ℕ) → b < c → b / H ≤ c / H
    fields b c h = omega arith

    digits : (b c : ℕ) → b < c → b / H ≡ c / H → H + b % H < H + c % H
    digits b c h e = omega arith

    lower : (b : ℕ) → H + b % H < H * 2
    lower b = omega arith

    next : (x y : ℕ) → 1 ≤ x → x < y → suc (x - 1) ≤ y - 1
    next x y h k = omega arith

    first : (b : ℕ) → H ≤ b → 1 ≤ b / H
    first b h = omega arith

    once : (c : ℕ) → H ≤ H + c % H
    once c = omega arith

    high : H ≤ b → H ≤ c → (H + b % H) * 2 ^ (b / H - 1) < (H + c % H) * 2 ^ (c / H - 1)
    high k l = elim (eq-or-lt_of_le (fields b c h)) [
      | inl e ↦ subst (λ (x : ℕ). (H + b % H) * 2 ^ (b / H - 1) < (H + c % H) * 2 ^ (x - 1)) e (mul-lt-mul_of_pos_right (digits b c h e) (pow_pos (b / H - 1)))
      | inr m ↦
          lt_of_lt_of_le (mul-lt-mul_of_pos_right (lower b) (pow_pos (b / H - 1)))
          (le_trans (le_of_eq (mul_assoc H 2 (2 ^ (b / H - 1)) ∙ ap (λ (x : ℕ). H * x) (sym (pow-succ' 2 (b / H - 1)))))
          (le_trans (mul-le-mul_left H (pow_mono (next (b / H) (c / H) (first b k) m))) (mul-le-mul_right (2 ^ (c / H - 1)) (once c))))
    ]

    go : (x y : Bool) → ltb b H ≡ x → ltb c H ≡ y → cond x b ((H + b % H) * 2 ^ (b / H - 1)) < cond y c ((H + c % H) * 2 ^ (c / H - 1))
    go true true p q = h
    go true false p q = over b (c % H) (2 ^ (c / H - 1)) (ltb-true b H p) (pow_pos (c / H - 1))
    go false true p q = absurd (crossing b c h (ltb-false b H p) (ltb-true c H q))
    go false false p q = high (ltb-false b H p) (ltb-false c H q)

lt_of_values : (x y : Float) (a b c : ℕ) → 0 < c → HasValue x false a c → HasValue y false b c → a < b → T (lt x y)
unfolding lt
lt_of_values nan y a b c C p q h = absurd p
lt_of_values (inf s) y a b c C p q h = absurd p
lt_of_values (fin true m e) y a b c C p q h = absurd (true≢false p.0)
lt_of_values (fin false m e) nan a b c C p q h = absurd q
lt_of_values (fin false m e) (inf t) a b c C p q h = absurd q
lt_of_values (fin false m e) (fin true n d) a b c C p q h = absurd (true≢false q.0)
lt_of_values (fin false m e) (fin false n d) a b c C p q h =
    lt→ltb (m * up e * down d) (n * up d * down e)
    (lt_of_mul-lt-mul_right c
    (subst (λ (z : ℕ). z < n * up d * down e * c) (left (m * up e) (down e) a (down d) p.1)
    (subst (λ (z : ℕ). a * (down e * down d) < z) (right (n * up d) (down d) b (down e) q.1) (mul-lt-mul_of_pos_right h (mul-pos (down_pos e) (down_pos d))))))
  where
    left : (x e a d : ℕ) → x * c ≡ a * e → a * (e * d) ≡ x * d * c
    left x e a d k = sym (mul_assoc a e d) ∙ ap (λ (z : ℕ). z * d) (sym k) ∙ mul_right_comm x c d

    right : (x d b e : ℕ) → x * c ≡ b * d → b * (e * d) ≡ x * e * c
    right x d b e k = ap (λ (z : ℕ). b * z) (mul_comm e d) ∙ left x d b e k

-- ---- up to the infinity
top_is : of_bits binary64 INF ≡ inf false
unfolding of_bits
top_is = refl

under_top : (x : Float) (a c : ℕ) → HasValue x false a c → T (lt x (inf false))
unfolding lt
under_top nan a c h = absurd h
under_top (inf s) a c h = absurd h
under_top (fin s m e) a c h = tt

pos_lt : (a b : ℕ) → a < b → b ≤ INF → T (lt (of_bits binary64 a) (of_bits binary64 b))
pos_lt a b h k = elim (eq-or-lt_of_le k) [
  | inl e ↦ rw (e, top_is) (under_top (of_bits binary64 a) (val a) (2 ^ 1074) (value a (rw e at h)))
  | inr l ↦ lt_of_values (of_bits binary64 a) (of_bits binary64 b) (val a) (val b) (2 ^ 1074) (pow_pos 1074) (value a (chain a b h l)) (value b l) (val_lt a b h)
]
  where
    chain : (a b : ℕ) → a < b → b < INF → a < INF
    chain a b h l = omega arith

abbrev Clear : Float → Type 0
Clear nan = ⊥
Clear (inf s) = s ≡ false
Clear (fin s m e) = s ≡ false

clear : (b : ℕ) → b ≤ INF → Clear (of_bits binary64 b)
clear b k = elim (eq-or-lt_of_le k) [ inl e ↦ rw (e, top_is) refl | inr l ↦ of_value (of_bits binary64 b) (val b) (2 ^ 1074) (value b l) ]
  where
    of_value : (x : Float) (a c : ℕ) → HasValue x false a c → Clear x
    of_value nan a c h = h
    of_value (inf s) a c h = absurd h
    of_value (fin s m e) a c h = h.0

-- ---- the sign's bit
fields_neg : (x t : ℕ) → of_fields binary64 true x t ≡ neg (of_fields binary64 false x t)
unfolding of_fields odd neg
fields_neg zero zero = refl
fields_neg zero (suc t) = refl
fields_neg (suc x) t = go (eqb (suc x) 2047) (eqb t 0) (H + t)
  where
    at-odd : (q : ℕ) → odd 53 true q x 1074 ≡ neg (odd 53 false q x 1074)
    at-odd zero = refl
    at-odd (suc q) = refl

    go : (a b : Bool) (q : ℕ) → cond a (cond b (inf true) nan) (odd 53 true q x 1074) ≡ neg (cond a (cond b (inf false) nan) (odd 53 false q x 1074))
    go true true q = refl
    go true false q = refl
    go false b q = at-odd q

neg_bits : (r : ℕ) → r < TOP → of_bits binary64 (TOP + r) ≡ neg (of_bits binary64 r)
neg_bits r h =
    let a : TOP ≤ TOP + r = omega arith in
    let b : (TOP + r) % TOP ≡ r = omega arith in
    let d : (TOP + r) % H ≡ r % H = omega arith in
    of_bits_is (TOP + r) ∙ rw (le-leb TOP (TOP + r) a, b, d, fields_neg (r / H) (r % H)) (sym (ap neg (plain r h)))

neg_lt : (x y : Float) → Clear x → Clear y → T (lt y x) → T (lt (neg x) (neg y))
unfolding lt neg
neg_lt nan y p q h = absurd p
neg_lt (inf s) nan p q h = absurd q
neg_lt (inf true) (inf t) p q h = absurd (true≢false p)
neg_lt (inf false) (inf true) p q h = absurd (true≢false q)
neg_lt (inf false) (inf false) p q h = h
neg_lt (inf true) (fin t n d) p q h = absurd (true≢false p)
neg_lt (inf false) (fin t n d) p q h = tt
neg_lt (fin s m e) nan p q h = absurd q
neg_lt (fin s m e) (inf true) p q h = absurd (true≢false q)
neg_lt (fin s m e) (inf false) p q h = absurd h
neg_lt (fin true m e) (fin t n d) p q h = absurd (true≢false p)
neg_lt (fin false m e) (fin true n d) p q h = absurd (true≢false q)
neg_lt (fin false m e) (fin false n d) p q h = h

abbrev nought : Float
nought = fin false 0 (pos 0)

across : (x y : Float) → Clear x → Clear y → T (lt nought x) ⊎ T (lt nought y) → T (lt (neg x) y)
unfolding lt neg
across nan y p q h = absurd p
across (inf true) y p q h = absurd (true≢false p)
across (inf false) nan p q h = absurd q
across (inf false) (inf true) p q h = absurd (true≢false q)
across (inf false) (inf false) p q h = tt
across (inf false) (fin t n d) p q h = tt
across (fin s m e) nan p q h = absurd q
across (fin true m e) (inf t) p q h = absurd (true≢false p)
across (fin false m e) (inf true) p q h = absurd (true≢false q)
across (fin false m e) (inf false) p q h = tt
across (fin true m e) (fin t n d) p q h = absurd (true≢false p)
across (fin false m e) (fin true n d) p q h = absurd (true≢false q)
across (fin false m e) (fin false n d) p q h =
    lt→ltb 0 (m * up e * down d + n * up d * down e)
    (elim h [
      | inl u ↦ left (m * up e * down d) (n * up d * down e) (mul-pos (some (m * up e) (down e) (ltb→lt (0 * 1 * down e) (m * up e * 1) u)) (down_pos d))
      | inr u ↦ right (m * up e * down d) (n * up d * down e) (mul-pos (some (n * up d) (down d) (ltb→lt (0 * 1 * down d) (n * up d * 1) u)) (down_pos e))
    ])
  where
    some : (a d : ℕ) → 0 * 1 * d < a * 1 → 0 < a
    some a d h = omega arith

    left : (a b : ℕ) → 0 < a → 0 < a + b
    left a b h = omega arith

    right : (a b : ℕ) → 0 < b → 0 < a + b
    right a b h = omega arith

-- ---- the key
abbrev pub key : ℕ → ℕ
key n = cond (ltb n TOP) (TOP + n) (TOP + TOP - n)

abbrev pub Plain : ℕ → Type 0
Plain n = (n < TOP + TOP) × (n % TOP ≤ INF)

nought_is : of_bits binary64 0 ≡ nought
unfolding of_bits
nought_is = refl

pub lt_key : (a b : ℕ) → Plain a → Plain b → key a < key b → T (lt (of_bits binary64 a) (of_bits binary64 b))
lt_key a b p q h = go (ltb a TOP) (ltb b TOP) refl refl h
  where
    rest : (n : ℕ) → n < TOP + TOP → n % TOP ≤ INF → TOP ≤ n → (TOP + (n - TOP) ≡ n) × (n - TOP ≤ INF) × (n - TOP < TOP)
    rest n h k l = (omega arith, omega arith, omega arith)

    small : (n : ℕ) → n % TOP ≤ INF → n < TOP → n ≤ INF
    small n k l = omega arith

    flip : (a b : ℕ) → TOP ≤ a → TOP ≤ b → b < TOP + TOP → TOP + TOP - a < TOP + TOP - b → b - TOP < a - TOP
    flip a b k l m n = omega arith

    apart : (a b : ℕ) → TOP ≤ a → TOP + TOP - a < TOP + b → (0 < a - TOP) ⊎ (0 < b)
    apart a zero k l = inl (omega arith)
    apart a (suc b) k l = inr (omega arith)

    go : (x y : Bool) → ltb a TOP ≡ x → ltb b TOP ≡ y → cond x (TOP + a) (TOP + TOP - a) < cond y (TOP + b) (TOP + TOP - b) → T (lt (of_bits binary64 a) (of_bits binary64 b))
    go true true u v k = pos_lt a b (omega arith) (small b q.1 (ltb-true b TOP v))
    go true false u v k = absurd (no a b (ltb-false b TOP v) k)
      where
        no : (a b : ℕ) → TOP ≤ b → TOP + a < TOP + TOP - b → ⊥
        no a b h k = omega arith
    go false true u v k =
        let A = ltb-false a TOP u in
        let r = rest a p.0 p.1 A in
        let B = small b q.1 (ltb-true b TOP v) in
        subst (λ (z : ℕ). T (lt (of_bits binary64 z) (of_bits binary64 b))) r.0
        (rw (neg_bits (a - TOP) r.2) (across (of_bits binary64 (a - TOP)) (of_bits binary64 b) (clear (a - TOP) r.1) (clear b B)
        (elim (apart a b A k) [ inl z ↦ inl (rw (nought_is) at (pos_lt 0 (a - TOP) z r.1)) | inr z ↦ inr (rw (nought_is) at (pos_lt 0 b z B)) ])))
    go false false u v k =
        let A = ltb-false a TOP u in
        let B = ltb-false b TOP v in
        let r = rest a p.0 p.1 A in
        let s = rest b q.0 q.1 B in
        subst (λ (z : ℕ). T (lt (of_bits binary64 z) (of_bits binary64 b))) r.0
        (subst (λ (z : ℕ). T (lt (of_bits binary64 (TOP + (a - TOP))) (of_bits binary64 z))) s.0
        (rw (neg_bits (a - TOP) r.2, neg_bits (b - TOP) s.2)
        (neg_lt (of_bits binary64 (a - TOP)) (of_bits binary64 (b - TOP)) (clear (a - TOP) r.1) (clear (b - TOP) s.1) (pos_lt (b - TOP) (a - TOP) (flip a b A B q.0 k) r.1))))

-- ---- and back: what is below has the lower key
zeros : T (eq (of_bits binary64 0) (of_bits binary64 TOP)) × T (eq (of_bits binary64 TOP) (of_bits binary64 0))
unfolding of_bits eq
zeros = (tt, tt)

pub not_nan : (n : ℕ) → Plain n → is_nan (of_bits binary64 n) ≡ false
not_nan n p = sym (nan_bits_is binary64 n) ∙ nan_bits_above binary64 n ∙ le-ltb INF (n % TOP) p.1

pub eq_key : (a b : ℕ) → Plain a → Plain b → key a ≡ key b → T (eq (of_bits binary64 a) (of_bits binary64 b))
eq_key a b p q h = go (ltb a TOP) (ltb b TOP) refl refl h
  where
    same : a ≡ b → T (eq (of_bits binary64 a) (of_bits binary64 b))
    same e = subst (λ (z : ℕ). T (eq (of_bits binary64 a) (of_bits binary64 z))) e
        (le_antisym (of_bits binary64 a) (of_bits binary64 a) (le_refl (of_bits binary64 a) (not_nan a p)) (le_refl (of_bits binary64 a) (not_nan a p)))

    go : (x y : Bool) → ltb a TOP ≡ x → ltb b TOP ≡ y → cond x (TOP + a) (TOP + TOP - a) ≡ cond y (TOP + b) (TOP + TOP - b) → T (eq (of_bits binary64 a) (of_bits binary64 b))
    go true true u v k = same (omega arith)
    go true false u v k =
        let B = ltb-false b TOP v in
        let x : a ≡ 0 = omega arith in
        let y : b ≡ TOP = omega arith in
        rw (x, y) zeros.0
    go false true u v k =
        let A = ltb-false a TOP u in
        let x : a ≡ TOP = omega arith in
        let y : b ≡ 0 = omega arith in
        rw (x, y) zeros.1
    go false false u v k = same (omega (arith, p.0, q.0, ltb-false a TOP u, ltb-false b TOP v))

pub le_key : (a b : ℕ) → Plain a → Plain b → key a ≤ key b → T (le (of_bits binary64 a) (of_bits binary64 b))
le_key a b p q h = elim (eq-or-lt_of_le h) [
  | inl e ↦ eq_le (of_bits binary64 a) (of_bits binary64 b) (eq_key a b p q e)
  | inr l ↦ lt_le (of_bits binary64 a) (of_bits binary64 b) (lt_key a b p q l)
]

pub key_lt : (a b : ℕ) → Plain a → Plain b → T (lt (of_bits binary64 a) (of_bits binary64 b)) → key a < key b
key_lt a b p q h = go (ltb (key a) (key b)) refl
  where
    go : (x : Bool) → ltb (key a) (key b) ≡ x → key a < key b
    go true e = ltb-true (key a) (key b) e
    go false e = absurd (lt_not_le (of_bits binary64 a) (of_bits binary64 b) h (le_key b a q p (ltb-false (key a) (key b) e)))

pub plain_bits : (x : Float) → T (fits binary64 x) → is_nan x ≡ false → Plain (to_bits binary64 x)
plain_bits x f h =
    let n = to_bits binary64 x in
    (to_bits-lt binary64 x f, ltb-false INF (n % TOP) (sym (nan_bits_above binary64 n) ∙ nan_bits_is binary64 n ∙ ap is_nan (of_bits-to_bits binary64 x f) ∙ h))

pub key_le : (a b : ℕ) → Plain a → Plain b → T (eq (of_bits binary64 a) (of_bits binary64 b)) → key a ≤ key b
key_le a b p q h = go (ltb (key b) (key a)) refl
  where
    go : (x : Bool) → ltb (key b) (key a) ≡ x → key a ≤ key b
    go true e =
        absurd (lt_not_le (of_bits binary64 b) (of_bits binary64 a) (lt_key b a q p (ltb-true (key b) (key a) e)) (eq_le (of_bits binary64 a) (of_bits binary64 b) h))
    go false e = ltb-false (key b) (key a) e
