-- A float that fits, rounded to a whole number, is that number as a float, exactly: so its cast is the number held to the ends of an i64, and std's
-- `floor` and `round` with that cast are the floor and the nearest whole number. Assumes nothing.
use Rattle.std.proofs.Common.{◌≡◌, ℕ, zero, suc, ◌+◌, ◌-◌, ◌*◌, ◌/◌, ◌%◌, ◌^◌, ◌<◌, ◌≤◌, min, Bool, true, false, cond, ◌&&◌, T, eqb, ltb, leb, ℤ, pos, negsuc, neg_ℤ, sym, refl, ap, ◌∙◌, subst, le_trans, le_of_eq, lt_of_lt_of_le, mul-le-mul_left, zero-lt-suc, div-lt_iff_lt-mul, mul-lt-mul_of_pos_right, mul_assoc, mul-one, mul-pos, arith, lit≤, add-one, ltb→lt, pow_pos, pow-add, pow-suc, zero-mul, eqb→eq, leb→le, w64, to_z, of_z, to_z-of_z}
use native.Mathlib.Nat.{zero-div, add-div_right, mul-div_cancel}
use lib.Ieee.{Float, nan, inf, fin, binary64, up, down, round, fits, to_signed}
use lib.Ieee.Fits.{down_pos, and_l, and_r}
use lib.Ieee.Casts.{to_signed_in}
use lib.Signed.{mag}
use lib.Ieee.Exact.{HasValue, round_exact}
use Rattle.std.specs.Float.{round_with, float_round, floor}
use Rattle.whole.specs.Held.{signed, clamp, first, last}
use Rattle.whole.specs.Floor.{floor_of, floor_to}
use Rattle.whole.specs.Round.{round_of, round_to}
use Rattle.whole.proofs.Width.{clamp_plus, clamp_minus}

-- ---- the cast of a float that stands for a whole number
ends : (s : Bool) (q : ℕ) → cond s (neg_ℤ (pos (min q (2 ^ 63)))) (pos (min q (2 ^ 63 - 1))) ≡ clamp (first 63) (last 63) (signed s q)
ends false q = sym (clamp_plus 63 q)
ends true q = sym (clamp_minus 63 q)

cast : (v : Float) (s : Bool) (q : ℕ) → HasValue v s q 1 → to_signed 63 v ≡ clamp (first 63) (last 63) (signed s q)
unfolding to_signed
cast nan s q h = absurd h
cast (inf t) s q h = absurd h
cast (fin t m e) s q h =
    let is : m * up e ≡ q * down e = sym (mul-one (m * up e)) ∙ h.1 in
    let cut : m * up e / down e ≡ q = ap (λ (z : ℕ). z / down e) is ∙ mul-div_cancel q (down_pos e) in
    rw (h.0, cut) (ends s q)

-- ---- what fitting says
held : (s : Bool) (m : ℕ) (e : ℤ) → T (fits binary64 (fin s m e)) → (m < 2 ^ 53) × (down e ≤ 2 ^ 1074)
unfolding fits
held s zero e h = (pow_pos 53, le_trans (one e (eqb→eq (up e * down e) 1 h)) (pow_pos 1074))
  where
    one : (e : ℤ) → up e * down e ≡ 1 → down e ≤ 1
    one (pos k) h = le_of_eq refl
    one (negsuc k) h = omega arith
held s (suc m) e h =
    let A = eqb (suc m % 2) 1 in
    let B = ltb (suc m) (2 ^ 53) in
    let C = leb (down e) (2 ^ 1074) in
    let D = ltb (suc m * up e) (2 ^ 1024 * down e) in
    let abc = and_l (A && B && C) D h in
    (ltb→lt (suc m) (2 ^ 53) (and_r A B (and_l (A && B) C abc)), leb→le (down e) (2 ^ 1074) (and_r (A && B) C abc))

-- ---- a whole number next to a float that fits is a float, exactly: a float with a fraction is below 2 ^ 53
size_fits : (s : Bool) (m : ℕ) (e : ℤ) → T (fits binary64 (fin s m e)) → m * up e < 2 ^ 1024 * down e
unfolding fits
size_fits s zero e h = none (up e) (down e) (down_pos e)
  where
    none : (u d : ℕ) → 0 < d → 0 * u < 2 ^ 1024 * d
    none u d D = rw (zero-mul u) (mul-pos (pow_pos 1024) D)
size_fits s (suc m) e h = ltb→lt (suc m * up e) (2 ^ 1024 * down e) (and_r (eqb (suc m % 2) 1 && ltb (suc m) (2 ^ 53) && leb (down e) (2 ^ 1074)) (ltb (suc m * up e) (2 ^ 1024 * down e)) h)

exact : (s : Bool) (m : ℕ) (e : ℤ) (q : ℕ) → T (fits binary64 (fin s m e)) → (down e ≡ 1 → q ≡ m * up e) → q ≤ m * up e / down e + 1
    → HasValue (round binary64 s q 1) s q 1
exact s m (pos k) q f is near =
    let parts : m * 2 ^ (k + 1074) ≡ m * 2 ^ k * 2 ^ 1074 = ap (λ (z : ℕ). m * z) (pow-add 2 k 1074) ∙ sym (mul_assoc m (2 ^ k) (2 ^ 1074)) in
    round_exact binary64 s q 1 m (k + 1074) (zero-lt-suc 0) (held s m (pos k) f).0
    (subst (λ (z : ℕ). z < 2 ^ 2098) (sym parts) (scaled (m * 2 ^ k) (size_fits s m (pos k) f)))
    (ap (λ (z : ℕ). z * 2 ^ 1074) (is refl) ∙ sym parts ∙ sym (mul-one (m * 2 ^ (k + 1074))))
  where
    scaled : (a : ℕ) → a < 2 ^ 1024 * 1 → a * 2 ^ 1074 < 2 ^ 2098
    scaled a h = lt_of_lt_of_le (mul-lt-mul_of_pos_right h (pow_pos 1074)) (lit≤ tt)
exact s m (negsuc k) q f is near =
    let two : 2 ≤ 2 ^ suc k = even (2 ^ k) (pow_pos k) (pow-suc 2 k) in
    let few : m < 2 ^ 53 = (held s m (negsuc k) f).0 in
    let half : m * 1 / 2 ^ suc k < 2 ^ 52 = (div-lt_iff_lt-mul (pow_pos (suc k))).1 (lt_of_lt_of_le (first_half m few) (mul-le-mul_left (2 ^ 52) two)) in
    let small : q < 2 ^ 53 = omega arith in
    round_exact binary64 s q 1 q 1074 (zero-lt-suc 0) small (lt_of_lt_of_le (mul-lt-mul_of_pos_right small (pow_pos 1074)) (lit≤ tt)) (sym (mul-one (q * 2 ^ 1074)))
  where
    even : {d : ℕ} (t : ℕ) → 0 < t → d ≡ t * 2 → 2 ≤ d
    even t h e = omega arith

    first_half : (m : ℕ) → m < 2 ^ 53 → m * 1 < 2 ^ 52 * 2
    first_half m h = omega arith

-- ---- the sizes: without a fraction they are the size itself, and they are at most the next one
floor_whole : (n d : ℕ) → d ≡ 1 → n / d ≡ n
floor_whole n d h = rw h (omega arith)

ceiling_whole : (n d : ℕ) → d ≡ 1 → (n + d - 1) / d ≡ n
ceiling_whole n d h = rw h (omega arith)

nearest_whole : (n d : ℕ) → d ≡ 1 → (2 * n + d) / (2 * d) ≡ n
nearest_whole n d h = rw h (omega arith)

module _ (n d : ℕ) (D : 0 < d) where
  under : n < (n / d + 1) * d
  under = (div-lt_iff_lt-mul D).0 (omega arith)

  ceiling_next : (n + d - 1) / d ≤ n / d + 1
  ceiling_next =
      let h = under in
      let k : (n + d - 1) / d < n / d + 2 = (div-lt_iff_lt-mul D).1 (omega arith) in
      omega arith

  nearest_next : (2 * n + d) / (2 * d) ≤ n / d + 1
  nearest_next =
      let h = under in
      let k : (2 * n + d) / (2 * d) < n / d + 2 = (div-lt_iff_lt-mul (mul-pos (zero-lt-suc 1) D)).1 (omega arith) in
      omega arith

-- ---- below zero
floor_neg : (a d : ℕ) → 0 < d → neg_ℤ (pos ((a + d - 1) / d)) ≡ floor_of (neg_ℤ (pos a)) d
floor_neg zero d D =
    let k : (0 + d - 1) / d < 1 = (div-lt_iff_lt-mul D).1 (omega arith) in
    let z : (0 + d - 1) / d ≡ 0 = omega arith in
    rw (z, zero-div d)
floor_neg (suc a) d D = ap (λ (z : ℕ). neg_ℤ (pos z)) up_is
  where
    whole : suc a + d - 1 ≡ a + d
    whole = omega (arith, D)

    up_is : (suc a + d - 1) / d ≡ suc (a / d)
    up_is = ap (λ (z : ℕ). z / d) whole ∙ add-div_right a D ∙ add-one (a / d)

round_neg : (a d : ℕ) → 0 < d → neg_ℤ (pos ((2 * a + d) / (2 * d))) ≡ round_of (neg_ℤ (pos a)) d
round_neg zero d D =
    let k : (2 * 0 + d) / (2 * d) < 1 = (div-lt_iff_lt-mul (mul-pos (zero-lt-suc 1) D)).1 (omega arith) in
    let z : (2 * 0 + d) / (2 * d) ≡ 0 = omega arith in
    rw z
round_neg (suc a) d D = refl

-- ---- std's floor and round, and the cast as the machine reads it back
pub read_back : (r : ℤ) (v : Float) → r ≡ to_signed 63 v → to_z w64 (of_z w64 r) ≡ r
read_back r v e = to_z-of_z {w = w64} {z = r} (record { sfits = subst (λ (z : ℤ). mag z < 2 ^ 63) (sym e) (to_signed_in 63 v) })

pub floor_std : (x : Float) → T (fits binary64 x) → to_signed 63 (floor binary64 x) ≡ floor_to 63 x
unfolding round_with to_signed floor_to
floor_std nan f = refl
floor_std (inf true) f = refl
floor_std (inf false) f = refl
floor_std (fin false m e) f = cast _ false _ (exact false m e (m * up e / down e) f (floor_whole (m * up e) (down e)) (omega arith))
floor_std (fin true m e) f =
    cast _ true _ (exact true m e ((m * up e + down e - 1) / down e) f (ceiling_whole (m * up e) (down e)) (ceiling_next (m * up e) (down e) (down_pos e)))
    ∙ ap (clamp (first 63) (last 63)) (floor_neg (m * up e) (down e) (down_pos e))

pub round_std : (x : Float) → T (fits binary64 x) → to_signed 63 (float_round binary64 x) ≡ round_to 63 x
unfolding round_with to_signed round_to
round_std nan f = refl
round_std (inf true) f = refl
round_std (inf false) f = refl
round_std (fin false m e) f =
    cast _ false _ (exact false m e ((2 * (m * up e) + down e) / (2 * down e)) f (nearest_whole (m * up e) (down e)) (nearest_next (m * up e) (down e) (down_pos e)))
round_std (fin true m e) f =
    cast _ true _ (exact true m e ((2 * (m * up e) + down e) / (2 * down e)) f (nearest_whole (m * up e) (down e)) (nearest_next (m * up e) (down e) (down_pos e)))
    ∙ ap (clamp (first 63) (last 63)) (round_neg (m * up e) (down e) (down_pos e))
