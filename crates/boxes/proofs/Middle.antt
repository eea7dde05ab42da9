-- The middle of two coordinates lies between them, so a quadrant's box keeps its lowest corner below its highest. Assumes nothing.
use mathlib.Core.Path.{◌≡◌, refl, sym, ap, ◌∙◌, subst}
use Prim.Native.Nat.{ℕ, zero, suc, ◌+◌, ◌-◌, ◌*◌, ◌^◌, ◌≤◌, ◌<◌}
use native.Mathlib.Nat.{add_comm, le_trans, le_of_eq, lt_of_le_of_lt, lt_of_lt_of_le, lt_irrefl, lt_trans, mul-one, mul-pos, mul_assoc, mul_comm, mul-le-mul, mul-le-mul_right, eq_of_mul-eq-mul_right, zero-lt-suc, sub-add_cancel}
use native.Mathlib.Omega.{arith}
use mathlib.Core.Bool.{Bool, true, false, not, ◌&&◌, cond, and-false}
use lib.IntN.{ℤ, pos, negsuc}
use lib.Dec.{T, ltb, leb, eqb→eq, lit<}
use lib.Pow.{pow-add, pow_pos, pow-lt, pow_mono, shl_lt}
use borrow.Author.Tests.{leb-true, leb-false, ltb-true, ltb-false, eq-eqb}
use lib.Ieee.{Float, nan, inf, fin, binary64, up, down, round, sum, unlike, add, sub, neg, div, of_bits, fits, eq, level, le}
use lib.Ieee.Fits.{down_pos}
use lib.Ieee.Exact.{HasValue, round_exact}
use lib.Ieee.Scale.{finite, round_same}
use Rattle.floats.proofs.Keeps.{sub_keeps, div_keeps}
use Rattle.floats.proofs.Order.{eq_le, eq_sym, le_trans as le-le}
use Rattle.floats.proofs.Rise.{Under}
use Rattle.boxes.specs.declared.Rect.{Rect}
use Rattle.boxes.specs.Quads.{middle, mid_x, mid_y, quad_bounds}
use Rattle.boxes.proofs.Sizes.{in_format, Coordinate, two}
use Rattle.boxes.proofs.Quads.{Placed}

-- ---- a coordinate, and twice it, round to themselves
small : (s : Bool) (m : ℕ) (e : ℤ) → T (fits binary64 (fin s m e)) → m < 2 ^ 53
small s zero e h = pow_pos 53
small s (suc m) e h = (in_format s m e h).0

deep : (s : Bool) (m k : ℕ) → T (fits binary64 (fin s m (negsuc k))) → suc k ≤ 1074
unfolding fits
deep s zero k f = absurd (clash (2 ^ suc k) (pow-lt {i = 0} {j = suc k} (zero-lt-suc k)) (eqb→eq (1 * 2 ^ suc k) 1 f))
  where
    clash : (n : ℕ) → 1 < n → 1 * n ≡ 1 → ⊥
    clash n p q = omega arith
deep s (suc m) k f = go (leb (suc k) 1074) refl
  where
    go : (t : Bool) → leb (suc k) 1074 ≡ t → suc k ≤ 1074
    go true e = leb-true (suc k) 1074 e
    go false e = absurd (lt_irrefl (2 ^ 1074) (lt_of_lt_of_le (pow-lt {i = 1074} {j = suc k} (leb-false (suc k) 1074 e)) (in_format s m (negsuc k) f).1))

merged : (m k i l : ℕ) → m * 2 ^ k * 2 ^ i * 2 ^ l ≡ m * 2 ^ (k + i + l)
merged m k i l =
    ap (λ (z : ℕ). z * 2 ^ l) (mul_assoc m (2 ^ k) (2 ^ i) ∙ ap (λ (z : ℕ). m * z) (sym (pow-add 2 k i))) ∙ mul_assoc m (2 ^ (k + i)) (2 ^ l) ∙ ap (λ (z : ℕ). m * z) (sym (pow-add 2 (k + i) l))

module _ (σ s : Bool) (m i : ℕ) (I : i ≤ 1) where
  exact_up : (k : ℕ) → T (fits binary64 (fin s m (pos k))) → m * 2 ^ k ≤ 2 ^ 400 → HasValue (round binary64 σ (m * 2 ^ k * 2 ^ i) 1) σ (m * 2 ^ k * 2 ^ i) 1
  exact_up k f h =
      round_exact binary64 σ (m * 2 ^ k * 2 ^ i) 1 m (k + i + 1074) (zero-lt-suc 0) (small s m (pos k) f)
      (lt_of_le_of_lt (le_trans (le_of_eq (sym (merged m k i 1074))) (mul-le-mul_right (2 ^ 1074) (mul-le-mul h (pow_mono I)))) (pow-lt {i = 1475} {j = 2098} (lit< tt)))
      (merged m k i 1074 ∙ sym (mul-one (m * 2 ^ (k + i + 1074))))

  exact_down : (k : ℕ) → T (fits binary64 (fin s m (negsuc k))) → HasValue (round binary64 σ (m * 1 * 2 ^ i) (2 ^ suc k)) σ (m * 1 * 2 ^ i) (2 ^ suc k)
  exact_down k f =
      let d = deep s m k f in
      round_exact binary64 σ (m * 1 * 2 ^ i) (2 ^ suc k) m (i + (1074 - suc k)) (pow_pos (suc k)) (small s m (negsuc k) f)
      (lt_trans (shl_lt 53 (i + (1074 - suc k)) (small s m (negsuc k) f)) (pow-lt {i = 53 + (i + (1074 - suc k))} {j = 2098} (omega arith)))
      (ap (λ (z : ℕ). m * 1 * 2 ^ i * 2 ^ z) (sym (sub-add_cancel d)) ∙ parted (1074 - suc k) (suc k))
    where
      regroup : (m a b c : ℕ) → m * 1 * a * (b * c) ≡ m * (a * b) * c
      regroup m a b c = omega arith

      parted : (j l : ℕ) → m * 1 * 2 ^ i * 2 ^ (j + l) ≡ m * 2 ^ (i + j) * 2 ^ l
      parted j l = rw (pow-add 2 j l, pow-add 2 i j) (regroup m (2 ^ i) (2 ^ j) (2 ^ l))

-- ---- (x + x) / 2 is x
same_value : (x y : Float) (s : Bool) (a c : ℕ) → 0 < c → HasValue x s a c → HasValue y s a c → T (eq x y)
unfolding eq
same_value nan y s a c C p q = absurd p
same_value (inf r) y s a c C p q = absurd p
same_value (fin r m e) nan s a c C p q = absurd q
same_value (fin r m e) (inf u) s a c C p q = absurd q
same_value (fin r m e) (fin u n d) s a c C p q =
    rw (p.0, q.0) (level-self s (m * up e * down d) (n * up d * down e) (eq_of_mul-eq-mul_right c C (m * up e * down d) (n * up d * down e) (crossed (m * up e) (down e) (n * up d) (down d) p.1 q.1)))
  where
    crossed : (x e y d : ℕ) → x * c ≡ a * e → y * c ≡ a * d → x * d * c ≡ y * e * c
    crossed x e y d p q = omega (arith, ap (λ (z : ℕ). z * d) p, ap (λ (z : ℕ). z * e) q)

    level-self : (s : Bool) (i j : ℕ) → i ≡ j → T (level s i s j)
    level-self true i j e = rw (eq-eqb i j e) tt
    level-self false i j e = rw (eq-eqb i j e) tt

exact : (s : Bool) (m i : ℕ) (e : ℤ) → i ≤ 1 → T (fits binary64 (fin s m e)) → Under (fin s m e) (fin false 1 (pos 400)) → HasValue (round binary64 s (m * up e * 2 ^ i) (down e)) s (m * up e * 2 ^ i) (down e)
exact s m i (pos k) I f u = exact_up s s m i I k f (plain (m * 2 ^ k) (2 ^ 400) u)
  where
    plain : (x l : ℕ) → x * 1 ≤ 1 * l * 1 → x ≤ l
    plain x l h = omega arith
exact s m i (negsuc k) I f u = exact_down s s m i I k f

doubled : (s : Bool) (m : ℕ) (e : ℤ) → add binary64 (fin s m e) (fin s m e) ≡ round binary64 s (m * up e * 2) (down e)
unfolding add sum
doubled s m e = alike s
  where
    twice : (x e : ℕ) → (x * e + x * e) * e ≡ x * 2 * (e * e)
    twice x e = omega arith

    alike : (s : Bool) → add binary64 (fin s m e) (fin s m e) ≡ round binary64 s (m * up e * 2) (down e)
    alike true = round_same binary64 true (m * up e * down e + m * up e * down e) (down e * down e) (m * up e * 2) (down e) (mul-pos (down_pos e) (down_pos e)) (down_pos e) (twice (m * up e) (down e))
    alike false = round_same binary64 false (m * up e * down e + m * up e * down e) (down e * down e) (m * up e * 2) (down e) (mul-pos (down_pos e) (down_pos e)) (down_pos e) (twice (m * up e) (down e))

halved : (v : Float) (s : Bool) (a c : ℕ) → 0 < c → HasValue v s (a * 2) c → div binary64 v (fin false 1 (pos 1)) ≡ round binary64 s a c
unfolding div
halved nan s a c C p = absurd p
halved (inf r) s a c C p = absurd p
halved (fin r m e) s a c C p =
    rw (p.0, unlike_plain s) (round_same binary64 s (m * up e * 1) (1 * 2 * down e) a c (mul-pos (zero-lt-suc 1) (down_pos e)) C (half (m * up e) (down e) p.1))
  where
    unlike_plain : (s : Bool) → unlike s false ≡ s
    unlike_plain true = refl
    unlike_plain false = refl

    half : (x e : ℕ) → x * c ≡ a * 2 * e → x * 1 * c ≡ a * (1 * 2 * e)
    half x e p = omega arith

-- the middle of x and x
self : (x : Float) → Coordinate x → T (eq x (middle x x))
self nan c = absurd c.1
self (inf s) c = absurd c.1
self (fin s m e) c =
    rw (two, doubled s m e, halved (round binary64 s (m * up e * 2) (down e)) s (m * up e) (down e) (down_pos e) (exact s m 1 e (omega arith) c.0 c.1))
    (same_value (fin s m e) (round binary64 s (m * up e) (down e)) s (m * up e) (down e) (down_pos e) (refl, refl)
    (rw (mul-one (m * up e)) at (exact s m 0 e (omega arith) c.0 c.1)))

-- ---- sums keep the order in each part
apart : (s t : Bool) (a b c : ℕ) → cond (ltb a b) (round binary64 t (b - a) c) (round binary64 (s && ltb b a) (a - b) c) ≡ cond (ltb b a) (round binary64 s (a - b) c) (round binary64 (t && ltb a b) (b - a) c)
apart s t a b c = go (ltb a b) (ltb b a) refl refl
  where
    sure : (s : Bool) → (s && true) ≡ s
    sure true = refl
    sure false = refl

    go : (x y : Bool) → ltb a b ≡ x → ltb b a ≡ y → cond x (round binary64 t (b - a) c) (round binary64 (s && y) (a - b) c) ≡ cond y (round binary64 s (a - b) c) (round binary64 (t && x) (b - a) c)
    go true true u v = absurd (clash (ltb-true a b u) (ltb-true b a v))
      where
        clash : a < b → b < a → ⊥
        clash p q = omega arith
    go true false u v = rw (sure t)
    go false true u v = rw (sure s)
    go false false u v =
        let k : a ≡ b = omega (arith, ltb-false) in
        rw (k, and-false s, and-false t)

sum_comm : (s t : Bool) (a b c : ℕ) → sum binary64 s a t b c ≡ sum binary64 t b s a c
unfolding sum
sum_comm true true a b c = ap (λ (z : ℕ). round binary64 true z c) (add_comm a b)
sum_comm false false a b c = ap (λ (z : ℕ). round binary64 false z c) (add_comm a b)
sum_comm true false a b c = apart true false a b c
sum_comm false true a b c = apart false true a b c

add_flip : (x y : Float) → add binary64 x y ≡ add binary64 y x
unfolding add
add_flip nan nan = refl
add_flip nan (inf t) = refl
add_flip nan (fin t n d) = refl
add_flip (inf s) nan = refl
add_flip (inf true) (inf true) = refl
add_flip (inf true) (inf false) = refl
add_flip (inf false) (inf true) = refl
add_flip (inf false) (inf false) = refl
add_flip (inf s) (fin t n d) = refl
add_flip (fin s m e) nan = refl
add_flip (fin s m e) (inf t) = refl
add_flip (fin s m e) (fin t n d) =
    sum_comm s t (m * up e * down d) (n * up d * down e) (down e * down d)
    ∙ ap (sum binary64 t (n * up d * down e) s (m * up e * down d)) (mul_comm (down e) (down d))

not_not : (s : Bool) → not (not s) ≡ s
not_not true = refl
not_not false = refl

finite_neg : (z : Float) → Coordinate z → T (finite (neg z))
unfolding neg
finite_neg nan c = absurd c.1
finite_neg (inf s) c = absurd c.1
finite_neg (fin s m e) c = tt

minus_minus : (x y : Float) → sub binary64 x (neg y) ≡ add binary64 x y
unfolding sub neg
minus_minus x nan = refl
minus_minus x (inf s) = ap (λ (t : Bool). add binary64 x (inf t)) (not_not s)
minus_minus x (fin s m e) = ap (λ (t : Bool). add binary64 x (fin t m e)) (not_not s)

middle_keeps : (x y z : Float) → Coordinate z → T (le x y) → T (le (middle x z) (middle y z))
middle_keeps x y z c h =
    rw two
    (div_keeps binary64 (add binary64 x z) (add binary64 y z) (fin false 1 (pos 1)) tt
    (rw (minus_minus x z, minus_minus y z) at (sub_keeps binary64 x y (neg z) (finite_neg z c) h)))

module _ (x y : Float) (p : Coordinate x) (q : Coordinate y) (h : T (le x y)) where
  pub middle_above : T (le x (middle x y))
  middle_above =
      le-le x (middle x x) (middle x y) (eq_le x (middle x x) (self x p))
      (subst (λ (v : Float). T (le (middle x x) v)) (ap (λ (v : Float). div binary64 v (of_bits binary64 0x4000_0000_0000_0000)) (add_flip y x)) (middle_keeps x y x p h))

  pub middle_below : T (le (middle x y) y)
  middle_below = le-le (middle x y) (middle y y) y (middle_keeps x y y q h) (eq_le (middle y y) y (eq_sym y (middle y y) (self y q)))

-- ---- a box whose lowest corner is not above or right of its highest
pub record Proper (b : Rect) : Type 0 where
  pub across : T (le b.min.x b.max.x)
  pub along : T (le b.min.y b.max.y)

pub quad_proper : (b : Rect) → Placed b → Proper b → (q : ℕ) → Proper (quad_bounds b q)
quad_proper b p o q = go q
  where
    west : T (le b.min.x (mid_x b))
    west = middle_above b.min.x b.max.x p.left p.right o.across

    east : T (le (mid_x b) b.max.x)
    east = middle_below b.min.x b.max.x p.left p.right o.across

    south : T (le b.min.y (mid_y b))
    south = middle_above b.min.y b.max.y p.low p.high o.along

    north : T (le (mid_y b) b.max.y)
    north = middle_below b.min.y b.max.y p.low p.high o.along

    go : (q : ℕ) → Proper (quad_bounds b q)
    go zero = record { across = west; along = north }
    go (suc zero) = record { across = east; along = north }
    go (suc (suc zero)) = record { across = west; along = south }
    go (suc (suc (suc zero))) = record { across = east; along = south }
    go (suc (suc (suc (suc q)))) = o
