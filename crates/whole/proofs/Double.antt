-- x + x is exact, or past the ends, and its whole part gives the nearest whole number of x, a half up. Assumes nothing.
use Rattle.std.proofs.Common.{◌≡◌, ℕ, zero, suc, ◌+◌, ◌-◌, ◌*◌, ◌/◌, ◌%◌, ◌^◌, ◌<◌, ◌≤◌, min, Bool, true, false, ◌&&◌, T, eqb, ltb, leb, ℤ, pos, negsuc, sym, refl, ap, ◌∙◌, subst, inl, inr, true≢false, le_trans, le_of_eq, lt_of_lt_of_le, mul-le-mul_right, zero-lt-suc, mul_comm, div-lt_iff_lt-mul, lt_of_mul-lt-mul_right, mul-lt-mul_of_pos_right, mul-pos, pow-suc, le-div_iff_mul-le, zero-mul, mul-one, not-le_of_lt, arith, lit<, lit≤, eqb→eq, ltb→lt, leb→le, pow_pos, pow_mono, pow-add, ltb-false, ltb-true, leb-false, leb-true}
use native.Mathlib.Nat.{eq_of_mul-eq-mul_right, div-div-eq-div-mul, add-div_right, zero-div}
use lib.Ieee.Nearest.{div_same}
use lib.Ieee.{Float, nan, inf, fin, binary64, up, down, neg, add, round, fits, to_unsigned}
use lib.Ieee.Fits.{down_pos, and_l, and_r}
use lib.Ieee.Exact.{HasValue, round_exact}
use lib.Ieee.Casts.{to_unsigned-lt}
use Rattle.floats.proofs.Rise.{Nonneg, round_under, round_plain, to_unsigned_mono}
use Rattle.floats.proofs.Keeps.{round_neg}
use Rattle.whole.specs.Inner.Sizes.{near_size}

-- ---- what fitting says
pub held : (s : Bool) (m : ℕ) (e : ℤ) → T (fits binary64 (fin s m e)) → (m < 2 ^ 53) × (down e ≤ 2 ^ 1074)
unfolding fits
held s zero e h = (pow_pos 53, le_trans (one e (eqb→eq (up e * down e) 1 h)) (pow_pos 1074))
  where
    one : (e : ℤ) → up e * down e ≡ 1 → down e ≤ 1
    one (pos k) h = le_of_eq refl
    one (negsuc k) h = omega arith
held s (suc m) e h =
    let A = eqb (suc m % 2) 1 in
    let B = ltb (suc m) (2 ^ 53) in
    let C = leb (down e) (2 ^ 1074) in
    let D = ltb (suc m * up e) (2 ^ 1024 * down e) in
    let abc = and_l (A && B && C) D h in
    (ltb→lt (suc m) (2 ^ 53) (and_r A B (and_l (A && B) C abc)), leb→le (down e) (2 ^ 1074) (and_r (A && B) C abc))

-- ---- 2 * up e / down e in units of 2 ^ -1074 is a power of two
places : (e : ℤ) → down e ≤ 2 ^ 1074 → (j : ℕ) × (2 ^ j * down e ≡ 2 * up e * 2 ^ 1074)
places (pos k) h = (suc k + 1074, mul-one (2 ^ (suc k + 1074)) ∙ pow-add 2 (suc k) 1074 ∙ ap (λ (z : ℕ). z * 2 ^ 1074) (pow-suc 2 k ∙ mul_comm (2 ^ k) 2))
places (negsuc k) h = (1075 - suc k, sym (pow-add 2 (1075 - suc k) (suc k)) ∙ ap (λ (z : ℕ). 2 ^ z) (back k (under k h)))
  where
    back : (k : ℕ) → suc k ≤ 1074 → 1075 - suc k + suc k ≡ 1075
    back k h = omega arith

    under : (k : ℕ) → 2 ^ suc k ≤ 2 ^ 1074 → suc k ≤ 1074
    under k h = go (leb (suc k) 1074) refl
      where
        go : (x : Bool) → leb (suc k) 1074 ≡ x → suc k ≤ 1074
        go true e = leb-true (suc k) 1074 e
        go false e = absurd (not-le_of_lt (lit< {m = 2 ^ 1074} {n = 2 ^ 1075} tt) (le_trans (pow_mono (leb-false (suc k) 1074 e)) h))

sums : (m u d j l : ℕ) → j * d ≡ 2 * u * l → (m * u * d + m * u * d) * l ≡ m * j * (d * d)
sums m u d j l h =
    let p : m * d * (j * d) ≡ m * d * (2 * u * l) = ap (λ (z : ℕ). m * d * z) h in
    omega arith

under_top : (m u d j l B : ℕ) → 0 < d → 0 < l → j * d ≡ 2 * u * l → m * u < B * d → m * j < 2 * (B * l)
under_top m u d j l B D L h k =
    lt_of_mul-lt-mul_right d
    (subst (λ (z : ℕ). z < 2 * (B * l) * d) (left m u d j l h) (subst (λ (z : ℕ). m * u * (2 * l) < z) (right B d l) (mul-lt-mul_of_pos_right k (mul-pos (zero-lt-suc 1) L))))
  where
    left : (m u d j l : ℕ) → j * d ≡ 2 * u * l → m * u * (2 * l) ≡ m * j * d
    left m u d j l h = let p : m * (j * d) ≡ m * (2 * u * l) = ap (λ (z : ℕ). m * z) h in omega arith

    right : (B d l : ℕ) → B * d * (2 * l) ≡ 2 * (B * l) * d
    right B d l = omega arith

-- the sum of `fin s m e` and itself, before it is rounded, is twice / square
abbrev twice : ℕ → ℤ → ℕ
twice m e = m * up e * down e + m * up e * down e

abbrev square : ℤ → ℕ
square e = down e * down e

add_is : (s : Bool) (m : ℕ) (e : ℤ) → add binary64 (fin s m e) (fin s m e) ≡ round binary64 s (twice m e) (square e)
unfolding add
add_is true m e = refl
add_is false m e = refl

square_pos : (e : ℤ) → 0 < square e
square_pos e = mul-pos (down_pos e) (down_pos e)

double_exact : (s : Bool) (m : ℕ) (e : ℤ) → T (fits binary64 (fin s m e)) → m * up e < 2 ^ 63 * down e → HasValue (round binary64 s (twice m e) (square e)) s (twice m e) (square e)
double_exact s m e f k =
    let h = held s m e f in
    let j = places e h.1 in
    round_exact binary64 s (twice m e) (square e) m j.0 (square_pos e) h.0
    (lt_of_lt_of_le (under_top m (up e) (down e) (2 ^ j.0) (2 ^ 1074) (2 ^ 63) (down_pos e) (pow_pos 1074) j.1 k) (lit≤ tt))
    (sums m (up e) (down e) (2 ^ j.0) (2 ^ 1074) j.1)

-- ---- its whole part, where it is exact
cut : (v : Float) (a d : ℕ) → 0 < d → HasValue v false (a * d + a * d) (d * d) → a < 2 ^ 63 * d → (to_unsigned 64 v ≡ 2 * a / d) × (2 * a / d < 2 ^ 64)
unfolding to_unsigned
cut nan a d D h k = absurd h
cut (inf s) a d D h k = absurd h
cut (fin true m e) a d D h k = absurd (true≢false h.0)
cut (fin false m e) a d D h k =
    let w : m * up e * d ≡ 2 * a * down e = eq_of_mul-eq-mul_right d D (m * up e * d) (2 * a * down e) (flat (m * up e) d a (down e) h.1) in
    let q : m * up e / down e ≡ 2 * a / d = div_same (m * up e) (down e) (2 * a) d (down_pos e) D w in
    let b : 2 * a < 2 ^ 64 * d = omega arith in
    let c : 2 * a / d < 2 ^ 64 = (div-lt_iff_lt-mul D).1 b in
    (rw q (omega arith), c)
  where
    flat : (x d a t : ℕ) → x * (d * d) ≡ (a * d + a * d) * t → x * d * d ≡ 2 * a * t * d
    flat x d a t h = omega arith

-- ---- past 2 ^ 64, and below 0
top_is : to_unsigned 64 (round binary64 false (2 ^ 64) 1) ≡ 2 ^ 64 - 1
unfolding to_unsigned round
top_is = refl

past : (m : ℕ) (e : ℤ) → 2 ^ 63 * down e ≤ m * up e → to_unsigned 64 (round binary64 false (twice m e) (square e)) ≡ 2 ^ 64 - 1
past m e h =
    let v = round binary64 false (twice m e) (square e) in
    let u = to_unsigned_mono 64 (round binary64 false (2 ^ 64) 1) v
    (round_under binary64 false false (2 ^ 64) 1 (twice m e) (square e) (zero-lt-suc 0) (square_pos e) (wide (m * up e) (down e) h))
    (round_plain binary64 (twice m e) (square e)) in
    full (to_unsigned 64 v) (subst (λ (z : ℕ). z ≤ to_unsigned 64 v) top_is u) (to_unsigned-lt 64 v)
  where
    wide : (a d : ℕ) → 2 ^ 63 * d ≤ a → 2 ^ 64 * (d * d) ≤ (a * d + a * d) * 1
    wide a d h = omega (arith, mul-le-mul_right d h)

    full : (u : ℕ) → 2 ^ 64 - 1 ≤ u → u < 2 ^ 64 → u ≡ 2 ^ 64 - 1
    full u h k = omega arith

negative : (v : Float) → Nonneg v → to_unsigned 64 (neg v) ≡ 0
unfolding to_unsigned neg
negative nan h = absurd h
negative (inf true) h = absurd (true≢false h)
negative (inf false) h = refl
negative (fin true m e) (inl h) = absurd (true≢false h)
negative (fin true m e) (inr h) = rw (h, zero-mul, zero-div) (omega arith)
negative (fin false m e) h = refl

-- ---- from the whole part t of x + x
halved : (a d : ℕ) → 0 < d → (2 * a / d + 1) / 2 ≡ (2 * a + d) / (2 * d)
halved a d D = ap (λ (z : ℕ). z / 2) (sym (add-div_right (2 * a) D)) ∙ div-div-eq-div-mul (2 * a + d) d 2 ∙ ap (λ (z : ℕ). (2 * a + d) / z) (mul_comm d 2)

pub near_is : (x : Float) (t : ℕ) → T (fits binary64 x) → t ≡ to_unsigned 64 (add binary64 x x) → t / 2 + t % 2 ≡ near_size x
unfolding to_unsigned add near_size
near_is nan t f e = rw e
near_is (inf true) t f e = rw e
near_is (inf false) t f e = rw e
near_is (fin true m e) t f u =
    let z : t ≡ 0 = u ∙ ap (to_unsigned 64) (add_is true m e ∙ round_neg binary64 (twice m e) (square e)) ∙ negative
    (round binary64 false (twice m e) (square e)) (round_plain binary64 (twice m e) (square e)) in
    rw z
near_is (fin false m e) t f u = go (ltb a (2 ^ 63 * d)) refl
  where
    a : ℕ
    a = m * up e

    d : ℕ
    d = down e

    t-is : t ≡ to_unsigned 64 (round binary64 false (twice m e) (square e))
    t-is = u ∙ ap (to_unsigned 64) (add_is false m e)

    half : (t : ℕ) → t / 2 + t % 2 ≡ (t + 1) / 2
    half t = omega arith

    inside : (t q : ℕ) → t < 2 ^ 64 → (t + 1) / 2 ≡ q → t / 2 + t % 2 ≡ min q (2 ^ 63)
    inside t q l h = omega arith

    go : (b : Bool) → ltb a (2 ^ 63 * d) ≡ b → t / 2 + t % 2 ≡ min ((2 * a + d) / (2 * d)) (2 ^ 63)
    go true h =
        let l = ltb-true a (2 ^ 63 * d) h in
        let c = cut (round binary64 false (twice m e) (square e)) a d (down_pos e) (double_exact false m e f l) l in
        rw (t-is ∙ c.0) (inside (2 * a / d) ((2 * a + d) / (2 * d)) c.1 (halved a d (down_pos e)))
    go false h =
        let l = ltb-false a (2 ^ 63 * d) h in
        rw (t-is ∙ past m e l) (full ((2 * a + d) / (2 * d)) ((le-div_iff_mul-le (mul-pos (zero-lt-suc 1) (down_pos e))).1 (wide a d l)))
      where
        wide : (a d : ℕ) → 2 ^ 63 * d ≤ a → 2 ^ 63 * (2 * d) ≤ 2 * a + d
        wide a d l = omega arith

        full : (q : ℕ) → 2 ^ 63 ≤ q → 2 ^ 63 ≡ min q (2 ^ 63)
        full q l = omega arith
