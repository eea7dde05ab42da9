-- Where the ends' x differ, step 4's first quotient is finite for every finite p.x; where their heights are equal, its second is not. Assumes nothing.
use mathlib.Core.Path.{◌≡◌, refl, sym, ap, ◌∙◌, subst}
use Prim.Native.Nat.{ℕ, zero, suc, ◌+◌, ◌-◌, ◌*◌, ◌^◌, ◌≤◌, ◌<◌, zero-le}
use native.Mathlib.Nat.{le_refl, le_trans, le_of_eq, le_of_lt, mul-pos, mul-one, mul_assoc, mul_comm, mul-le-mul, mul-le-mul_right, mul-le-mul_left, lt_of_mul-lt-mul_right, add-mul, zero-mul, zero-lt-suc, sub-add_cancel, le-mul_of_pos_right, le_of_mul-le-mul_right, mul-sub}
use native.Mathlib.Omega.{arith}
use mathlib.Core.Bool.{Bool, true, false, not, ◌&&◌, cond, true≢false}
use lib.IntN.{ℤ, pos, negsuc, nat_abs}
use lib.Dec.{T, ltb, leb, eqb, eqb→eq, eqb-suc-zero}
use lib.Pow.{pow-add, pow_mono, pow_pos}
use borrow.Author.Tests.{leb-true, leb-false, ltb-true, ltb-false, eqb-false}
use lib.Ieee.{Float, nan, inf, fin, binary64, unlike, up, down, round, sum, sub, div, fits, eq, level, of_int}
use lib.Ieee.Fits.{up_pos, down_pos, and_l, and_r, sub-fits}
use lib.Ieee.Exact.{HasValue, round_exact}
use lib.Ieee.Scale.{finite, round_same}
use Rattle.boxes.proofs.Sizes.{in_format, sum_under, under_finite}
use Rattle.floats.proofs.Rise.{round_under}
use Rattle.rays.specs.Raycast.{quotient}
use Rattle.rays.proofs.Halves.{in_reach}
use lib.Ieee.Back.{round_whole}
use Rattle.floats.proofs.Ints.{minus, whole_value, value_eq}

-- ---- the largest finite value, 2 ^ 1024 - 2 ^ 971, and one that rounds to it
MAX : ℕ
MAX = (2 ^ 53 - 1) * 2 ^ 971

-- m * 2 ^ k, with m below 2 ^ p, is at most the largest such number below 2 ^ (p + l)
top_of : (m k p l : ℕ) → m < 2 ^ p → m * 2 ^ k < 2 ^ (p + l) → m * 2 ^ k ≤ (2 ^ p - 1) * 2 ^ l
top_of m k p l small h = go (leb k l) refl
  where
    pred_of : (a b : ℕ) → a < b → a ≤ b - 1
    pred_of a b h = omega arith

    go : (x : Bool) → leb k l ≡ x → m * 2 ^ k ≤ (2 ^ p - 1) * 2 ^ l
    go true e = mul-le-mul (pred_of m (2 ^ p) small) (pow_mono (leb-true k l e))
    go false e =
        let j = k - l in
        let split : 2 ^ k ≡ 2 ^ j * 2 ^ l = ap (λ (z : ℕ). 2 ^ z) (sym (sub-add_cancel (le_of_lt (leb-false k l e)))) ∙ pow-add 2 j l in
        let whole : m * 2 ^ k ≡ m * 2 ^ j * 2 ^ l = ap (λ (z : ℕ). m * z) split ∙ sym (mul_assoc m (2 ^ j) (2 ^ l)) in
        let less : m * 2 ^ j < 2 ^ p = lt_of_mul-lt-mul_right (2 ^ l) (rw (← whole, ← pow-add 2 p l) h) in
        rw whole (mul-le-mul_right (2 ^ l) (pred_of (m * 2 ^ j) (2 ^ p) less))

at_most : (s : Bool) (m : ℕ) (e : ℤ) → T (fits binary64 (fin s m e)) → m * up e ≤ MAX * down e
unfolding MAX
at_most s zero e h = rw (zero-mul (up e)) zero-le
at_most s (suc m) (pos k) h =
    let b = in_format s m (pos k) h in
    rw (mul-one MAX) (top_of (suc m) k 53 971 b.0 (rw (mul-one (2 ^ 1024)) at b.2))
at_most s (suc m) (negsuc k) h =
    le_trans (le_of_eq (mul-one (suc m)))
    (le_trans (small (suc m) (2 ^ 53) (in_format s m (negsuc k) h).0)
    (le_trans (le-mul_of_pos_right (2 ^ 53 - 1) (pow_pos 971)) (le-mul_of_pos_right MAX (pow_pos (suc k)))))
  where
    small : (a b : ℕ) → a < b → a ≤ b - 1
    small a b h = omega arith

-- ---- what rounds to a finite value
TOP : ℕ
TOP = MAX + 2 ^ 53

top_finite : T (finite (round binary64 false TOP 1))
unfolding TOP MAX round
top_finite = tt

round_finite : (s : Bool) (a c : ℕ) → 0 < c → a ≤ TOP * c → T (finite (round binary64 s a c))
round_finite s a c C h =
    under_finite (round binary64 s a c) (round binary64 false TOP 1) (round_under binary64 s false a c TOP 1 C (zero-lt-suc 0) (rw (mul-one a) h)) top_finite

-- ---- a difference
sum_finite : (s t : Bool) (a b c : ℕ) → 0 < c → a + b ≤ TOP * c → T (finite (sum binary64 s a t b c))
sum_finite s t a b c C h = under_finite (sum binary64 s a t b c) (round binary64 false TOP 1) (sum_under s t a b c TOP C h) top_finite

sub_finite : (x y : Float) (t : Bool) (b : ℕ) → T (fits binary64 x) → T (finite x) → HasValue y t b 1 → b ≤ 2 ^ 53 → T (finite (sub binary64 x y))
unfolding sub TOP
sub_finite nan y t b f h v k = h
sub_finite (inf s) y t b f h v k = absurd h
sub_finite (fin s m e) nan t b f h v k = absurd v
sub_finite (fin s m e) (inf u) t b f h v k = absurd v
sub_finite (fin s m e) (fin u n d) t b f h v k =
    sum_finite s (not u) (m * up e * down d) (n * up d * down e) (down e * down d) (mul-pos (down_pos e) (down_pos d))
    (both (m * up e) (down e) (n * up d) (down d) MAX b (2 ^ 53) (at_most s m e f) (sym (mul-one (n * up d)) ∙ v.1) k)
  where
    both : (x e y d p b q : ℕ) → x ≤ p * e → y ≡ b * d → b ≤ q → x * d + y * e ≤ (p + q) * (e * d)
    both x e y d p b q h i j = omega (arith, mul-le-mul_right d h, ap (λ (z : ℕ). z * e) i, mul-le-mul_right (e * d) j)

-- ---- a quotient by what is at least 1 in size
div_finite : (x y : Float) (t : Bool) (b : ℕ) → T (fits binary64 x) → T (finite x) → HasValue y t b 1 → 0 < b → T (finite (div binary64 x y))
unfolding div TOP
div_finite nan y t b f h v k = h
div_finite (inf s) y t b f h v k = absurd h
div_finite (fin s m e) nan t b f h v k = absurd v
div_finite (fin s m e) (inf u) t b f h v k = absurd v
div_finite (fin s m e) (fin u zero d) t b f h v k = absurd (clash (b * down d) (mul-pos k (down_pos d)) (sym v.1 ∙ mul-one (0 * up d) ∙ zero-mul (up d)))
  where
    clash : (n : ℕ) → 0 < n → n ≡ 0 → ⊥
    clash n p q = omega arith
div_finite (fin s m e) (fin u (suc n) d) t b f h v k =
    rw (eqb-suc-zero n)
    (round_finite (unlike s u) (m * up e * down d) (suc n * up d * down e) (mul-pos (mul-pos (zero-lt-suc n) (up_pos d)) (down_pos e))
    (most (m * up e) (down e) (suc n * up d) (down d) MAX b (2 ^ 53) (at_most s m e f) (sym (mul-one (suc n * up d)) ∙ v.1) k))
  where
    most : (x e y d p b q : ℕ) → x ≤ p * e → y ≡ b * d → 0 < b → x * d ≤ (p + q) * (y * e)
    most x e y d p b q h i j =
        let l : d ≤ y = omega (arith, mul-le-mul_right d j) in
        omega (arith, mul-le-mul_right d h, mul-le-mul_left (p * e) l)

-- ---- the difference of two whole numbers that differ is a whole number, and not 0
abbrev Differ : Float → ℕ → ℕ → Type 0
Differ v a b = (σ : Bool) × (n : ℕ) × (v ≡ round binary64 σ n 1) × (0 < n) × (n ≤ a + b)

times : (a b k : ℕ) → (a - b) * k ≡ a * k - b * k
times a b k = mul_comm (a - b) k ∙ mul-sub k a b ∙ ap (λ (z : ℕ). z - k * b) (mul_comm k a) ∙ ap (λ (z : ℕ). a * k - z) (mul_comm k b)

module _ (a b k : ℕ) (K : 0 < k) where
  added : (σ : Bool) → (eqb a b && eqb a 0) ≡ false → Differ (round binary64 σ (a * k + b * k) k) a b
  added σ h =
      (σ, a + b, round_same binary64 σ (a * k + b * k) k (a + b) 1 K (zero-lt-suc 0) (mul-one (a * k + b * k) ∙ sym (add-mul a b k)), some (eqb a b) (eqb a 0) refl refl h, le_refl (a + b))
    where
      some : (x y : Bool) → eqb a b ≡ x → eqb a 0 ≡ y → (x && y) ≡ false → 0 < a + b
      some false y p q r = omega (arith, eqb-false)
      some true false p q r = omega (arith, eqb-false)
      some true true p q r = absurd (true≢false r)

  taken : (σ τ : Bool) → (eqb a b && true) ≡ false → Differ (cond (ltb (a * k) (b * k)) (round binary64 σ (b * k - a * k) k) (round binary64 τ (a * k - b * k) k)) a b
  taken σ τ h = go (ltb (a * k) (b * k)) refl
    where
      apart : (x : Bool) → eqb a b ≡ x → (x && true) ≡ false → a ≡ b → ⊥
      apart true p q = absurd (true≢false q)
      apart false p q = eqb-false a b p

      go : (x : Bool) → ltb (a * k) (b * k) ≡ x → Differ (cond x (round binary64 σ (b * k - a * k) k) (round binary64 τ (a * k - b * k) k)) a b
      go true e =
          let l : a < b = lt_of_mul-lt-mul_right k (ltb-true (a * k) (b * k) e) in
          (σ, b - a, round_same binary64 σ (b * k - a * k) k (b - a) 1 K (zero-lt-suc 0) (mul-one (b * k - a * k) ∙ sym (times b a k)), omega arith, omega arith)
      go false e =
          let l : b ≤ a = le_of_mul-le-mul_right (ltb-false (a * k) (b * k) e) K in
          (τ, a - b, round_same binary64 τ (a * k - b * k) k (a - b) 1 K (zero-lt-suc 0) (mul-one (a * k - b * k) ∙ sym (times a b k)), omega (arith, apart (eqb a b) refl h), omega arith)

  signs : (s t : Bool) → level s a t b ≡ false → Differ (sum binary64 s (a * k) (not t) (b * k) k) a b
  unfolding sum
  signs false false p = taken true false p
  signs false true p = added false p
  signs true false p = added true p
  signs true true p = taken false (ltb (b * k) (a * k)) p

whole_sub : (x y : Float) (s t : Bool) (a b : ℕ) → HasValue x s a 1 → HasValue y t b 1 → eq x y ≡ false → Differ (sub binary64 x y) a b
unfolding sub eq
whole_sub nan y s t a b v w h = absurd v
whole_sub (inf r) y s t a b v w h = absurd v
whole_sub (fin r m e) nan s t a b v w h = absurd w
whole_sub (fin r m e) (inf u) s t a b v w h = absurd w
whole_sub (fin r m e) (fin u n d) s t a b v w h =
    rw (scaled (m * up e) a (down e) (down d) v.1, scaled (n * up d) b (down d) (down e) w.1, mul_comm (down d) (down e), v.0, w.0)
    (signs a b (down e * down d) (mul-pos (down_pos e) (down_pos d)) s t (sym (value_eq s a t b (fin r m e) (fin u n d) v w) ∙ h))
  where
    scaled : (x a e d : ℕ) → x * 1 ≡ a * e → x * d ≡ a * (e * d)
    scaled x a e d p = ap (λ (z : ℕ). z * d) (sym (mul-one x) ∙ p) ∙ mul_assoc a e d

-- ---- step 4
module _ (a b : ℤ) (A : nat_abs a < 2 ^ 52) (B : nat_abs b < 2 ^ 52) (x : Float) (f : T (fits binary64 x)) (X : T (finite x)) where
  pub first_finite : eq (of_int binary64 b) (of_int binary64 a) ≡ false → T (finite (quotient x (of_int binary64 a) (of_int binary64 b) (of_int binary64 a)))
  first_finite h =
      let va = whole_value a (in_reach a A) in
      let vb = whole_value b (in_reach b B) in
      let d = whole_sub (of_int binary64 b) (of_int binary64 a) (minus b) (minus a) (nat_abs b) (nat_abs a) vb va h in
      let small : d.1 ≤ 2 ^ 53 = omega (arith, d.4) in
      div_finite (sub binary64 x (of_int binary64 a)) (sub binary64 (of_int binary64 b) (of_int binary64 a)) d.0 d.1 (sub-fits binary64 x (of_int binary64 a))
      (sub_finite x (of_int binary64 a) (minus a) (nat_abs a) f X va (in_reach a A))
      (subst (λ (v : Float). HasValue v d.0 d.1 1) (sym d.2) (round_whole binary64 d.0 d.1 small)) d.3

-- ---- the difference of equal values is a zero or a NaN, and no quotient by one is finite
abbrev Void : Float → Type 0
Void nan = Unit
Void (inf s) = ⊥
Void (fin s m e) = m ≡ 0

void_round : (s : Bool) (a c : ℕ) → 0 < c → a ≡ 0 → Void (round binary64 s a c)
void_round s a c C e =
    rw e (from (round binary64 s 0 c) (round_exact binary64 s 0 c 0 0 C (pow_pos 53) (pow_pos 2098) (zero-mul (2 ^ 1074) ∙ sym (zero-mul c))))
  where
    nothing : (m u : ℕ) → 0 < u → m * u ≡ 0 → m ≡ 0
    nothing zero u U h = refl
    nothing (suc m) u U h = absurd (clash (suc m * u) (mul-pos (zero-lt-suc m) U) h)
      where
        clash : (n : ℕ) → 0 < n → n ≡ 0 → ⊥
        clash n p q = omega arith

    from : (x : Float) → HasValue x s 0 c → Void x
    from nan v = tt
    from (inf t) v = v
    from (fin t m e) v = nothing m (up e * c) (mul-pos (up_pos e) C) (sym (mul_assoc m (up e) c) ∙ v.1 ∙ zero-mul (down e))

even : (s t : Bool) (a b c : ℕ) → 0 < c → a ≡ b → Void (cond (ltb a b) (round binary64 s (b - a) c) (round binary64 t (a - b) c))
even s t a b c C e = go (ltb a b)
  where
    go : (x : Bool) → Void (cond x (round binary64 s (b - a) c) (round binary64 t (a - b) c))
    go true = void_round s (b - a) c C (omega arith)
    go false = void_round t (a - b) c C (omega arith)

level_sum : (s t : Bool) (a b c : ℕ) → 0 < c → T (level s a t b) → Void (sum binary64 s a (not t) b c)
unfolding sum
level_sum false false a b c C h = even true false a b c C (eqb→eq a b (and_l (eqb a b) true h))
level_sum false true a b c C h = void_round false (a + b) c C (omega (arith, eqb→eq a b (and_l (eqb a b) (eqb a 0) h), eqb→eq a 0 (and_r (eqb a b) (eqb a 0) h)))
level_sum true false a b c C h = void_round true (a + b) c C (omega (arith, eqb→eq a b (and_l (eqb a b) (eqb a 0) h), eqb→eq a 0 (and_r (eqb a b) (eqb a 0) h)))
level_sum true true a b c C h = even false (ltb b a) a b c C (eqb→eq a b (and_l (eqb a b) true h))

level_sub : (x y : Float) → T (eq x y) → Void (sub binary64 x y)
unfolding sub eq
level_sub nan y h = tt
level_sub (inf s) nan h = tt
level_sub (inf true) (inf true) h = tt
level_sub (inf true) (inf false) h = h
level_sub (inf false) (inf true) h = h
level_sub (inf false) (inf false) h = tt
level_sub (inf s) (fin t n d) h = absurd h
level_sub (fin s m e) nan h = absurd h
level_sub (fin s m e) (inf t) h = absurd h
level_sub (fin s m e) (fin t n d) h = level_sum s t (m * up e * down d) (n * up d * down e) (down e * down d) (mul-pos (down_pos e) (down_pos d)) h

div_void : (x y : Float) → Void y → finite (div binary64 x y) ≡ false
unfolding div
div_void nan y h = refl
div_void (inf s) nan h = refl
div_void (inf s) (inf t) h = absurd h
div_void (inf s) (fin t n d) h = refl
div_void (fin s m e) nan h = refl
div_void (fin s m e) (inf t) h = absurd h
div_void (fin s m e) (fin t n d) h = rw h (either (eqb m 0))
  where
    either : (z : Bool) → finite (cond z nan (inf (unlike s t))) ≡ false
    either true = refl
    either false = refl

pub second_not_finite : (x y z w : Float) → T (eq z w) → finite (quotient x y z w) ≡ false
second_not_finite x y z w h = div_void (sub binary64 x y) (sub binary64 z w) (level_sub z w h)
