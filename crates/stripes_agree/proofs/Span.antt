-- From the least to the greatest of whole numbers of up to 32 binary digits: their difference is a float, and the least and the difference make
-- the greatest again, with no rounding. Assumes nothing.
use mathlib.Core.Path.{◌≡◌, refl, sym, ap, ◌∙◌}
use Prim.Native.Nat.{ℕ, suc, ◌+◌, ◌-◌, ◌*◌, ◌^◌, ◌≤◌, ◌<◌}
use native.Mathlib.Nat.{mul-pos, mul-le-mul_right, mul-lt-mul_of_pos_right}
use native.Mathlib.Omega.{arith}
use mathlib.Core.Bool.{Bool, true, false, not, ◌&&◌, cond, beq}
use mathlib.Core.Logic.{inl, inr}
use lib.IntN.{ℤ, pos, negsuc, nat_abs}
use lib.Signed.{le_z}
use lib.Dec.{T, ltb, leb→le}
use borrow.Author.Tests.{lt-ltb, le-ltb, ltb-true, ltb-false}
use lib.Ieee.{Float, nan, inf, fin, binary64, round, up, down, neg, sum, add, sub, of_int}
use lib.Ieee.Fits.{down_pos, add-fits, of_int-fits}
use lib.Ieee.Exact.{HasValue}
use lib.Ieee.Back.{round_whole, whole_unique}
use lib.Ieee.Scale.{round_same}
use Rattle.room.proofs.Cases.{lt_or}
use Rattle.floats.proofs.Ints.{minus, whole_value}

-- ---- a sum of whole numbers is that of their sizes
less_scaled : (a b c : ℕ) → 0 < c → ltb (a * c) (b * c) ≡ ltb a b
less_scaled a b c p =
    elim (lt_or a b) [
      | inl l ↦ lt-ltb (a * c) (b * c) (mul-lt-mul_of_pos_right l p) ∙ sym (lt-ltb a b l)
      | inr g ↦ le-ltb (a * c) (b * c) (mul-le-mul_right c g) ∙ sym (le-ltb a b g)
    ]

minus_scaled : (a b c : ℕ) → b ≤ a → (a * c - b * c) * 1 ≡ (a - b) * c
minus_scaled a b c h = more a b (a - b) c (omega arith)
  where
    more : (a b d c : ℕ) → a ≡ b + d → (a * c - b * c) * 1 ≡ d * c
    more a b d c e = rw e (omega arith)

sum_scaled : (s : Bool) (a : ℕ) (t : Bool) (b c : ℕ) → 0 < c → sum binary64 s (a * c) t (b * c) c ≡ sum binary64 s a t b 1
unfolding sum
sum_scaled s a t b c p = rw (less_scaled a b c p, less_scaled b a c p) (go (beq s t) (ltb a b) refl)
  where
    go : (e l : Bool) → ltb a b ≡ l
        → cond e (round binary64 s (a * c + b * c) c) (cond l (round binary64 t (b * c - a * c) c) (round binary64 (s && ltb b a) (a * c - b * c) c))
        ≡ cond e (round binary64 s (a + b) 1) (cond l (round binary64 t (b - a) 1) (round binary64 (s && ltb b a) (a - b) 1))
    go true l w = round_same binary64 s (a * c + b * c) c (a + b) 1 p (omega arith) (omega arith)
    go false true w =
        round_same binary64 t (b * c - a * c) c (b - a) 1 p (omega arith) (minus_scaled b a c (omega (arith, ltb-true a b w)))
    go false false w =
        round_same binary64 (s && ltb b a) (a * c - b * c) c (a - b) 1 p (omega arith) (minus_scaled a b c (ltb-false a b w))

add_whole : (x y : Float) (s : Bool) (a : ℕ) (t : Bool) (b : ℕ) → HasValue x s a 1 → HasValue y t b 1 → add binary64 x y ≡ sum binary64 s a t b 1
unfolding add
add_whole nan y s a t b h k = absurd h
add_whole (inf u) y s a t b h k = absurd h
add_whole (fin u m e) nan s a t b h k = absurd k
add_whole (fin u m e) (inf v) s a t b h k = absurd k
add_whole (fin u m e) (fin v n d) s a t b h k =
    rw (h.0, k.0, left (m * up e) a (down e) (down d) h.1, right (n * up d) b (down e) (down d) k.1)
    (sum_scaled s a t b (down e * down d) (mul-pos (down_pos e) (down_pos d)))
  where
    left : (u a e d : ℕ) → u * 1 ≡ a * e → u * d ≡ a * (e * d)
    left u a e d h = omega (arith, ap (λ (z : ℕ). z * d) h)

    right : (u b e d : ℕ) → u * 1 ≡ b * d → u * e ≡ b * (e * d)
    right u b e d h = omega (arith, ap (λ (z : ℕ). z * e) h)

neg_value : (x : Float) (s : Bool) (a : ℕ) → HasValue x s a 1 → HasValue (neg x) (not s) a 1
unfolding neg
neg_value nan s a h = absurd h
neg_value (inf u) s a h = absurd h
neg_value (fin u m e) s a h = (ap not h.0, h.1)

sub_whole : (x y : Float) (s : Bool) (a : ℕ) (t : Bool) (b : ℕ) → HasValue x s a 1 → HasValue y t b 1 → sub binary64 x y ≡ sum binary64 s a (not t) b 1
unfolding sub
sub_whole x y s a t b h k = add_whole x (neg y) s a (not t) b h (neg_value y t b k)

-- ---- the sum in each case, as a value
module _ (a b : ℕ) (small : a + b ≤ 2 ^ 53) where
  alike : (s : Bool) → HasValue (sum binary64 s a s b 1) s (a + b) 1
  unfolding sum
  alike s = rw (beq_refl s) (round_whole binary64 s (a + b) small)
    where
      beq_refl : (s : Bool) → beq s s ≡ true
      beq_refl true = refl
      beq_refl false = refl

  -- a larger part of the other sign
  over : (s : Bool) → a < b → HasValue (sum binary64 s a (not s) b 1) (not s) (b - a) 1
  unfolding sum
  over s h = rw (beq_not s, lt-ltb a b h) (round_whole binary64 (not s) (b - a) (omega arith))
    where
      beq_not : (s : Bool) → beq s (not s) ≡ false
      beq_not true = refl
      beq_not false = refl

  under : (s : Bool) → b < a → HasValue (sum binary64 s a (not s) b 1) s (a - b) 1
  unfolding sum
  under s h = rw (beq_not s, le-ltb a b (omega arith), lt-ltb b a h, and-true s) (round_whole binary64 s (a - b) (omega arith))
    where
      beq_not : (s : Bool) → beq s (not s) ≡ false
      beq_not true = refl
      beq_not false = refl

      and-true : (s : Bool) → (s && true) ≡ s
      and-true true = refl
      and-true false = refl

  -- they cancel, and a zero from that is +0
  none : (s : Bool) → a ≡ b → HasValue (sum binary64 s a (not s) b 1) false 0 1
  unfolding sum
  none s h =
      let z : a - b ≡ 0 = omega arith in
      rw (beq_not s, le-ltb a b (omega arith), le-ltb b a (omega arith), and-false s, z) (round_whole binary64 false 0 (omega arith))
    where
      beq_not : (s : Bool) → beq s (not s) ≡ false
      beq_not true = refl
      beq_not false = refl

      and-false : (s : Bool) → (s && false) ≡ false
      and-false true = refl
      and-false false = refl

-- ---- from the least to the greatest
pub record Spanned (least greatest : Float) : Type 0 where
  pub tall : ℕ
  pub small : tall ≤ 2 ^ 53
  pub height : HasValue (sub binary64 greatest least) false tall 1
  pub flat : tall ≡ 0 → least ≡ greatest
  pub top : add binary64 least (sub binary64 greatest least) ≡ greatest

-- the two floats' values, the height's, and that the sum's is the greatest's
module _ (z w : ℤ) (zs : nat_abs z ≤ 2 ^ 31) (ws : nat_abs w ≤ 2 ^ 31) where
  spans : (h : ℕ) → h ≤ 2 ^ 53 → (h ≡ 0 → z ≡ w)
      → HasValue (sum binary64 (minus w) (nat_abs w) (not (minus z)) (nat_abs z) 1) false h 1
      → HasValue (sum binary64 (minus z) (nat_abs z) false h 1) (minus w) (nat_abs w) 1
      → Spanned (of_int binary64 z) (of_int binary64 w)
  spans h s f a b =
      let vz : HasValue (of_int binary64 z) (minus z) (nat_abs z) 1 = whole_value z (omega arith) in
      let vw : HasValue (of_int binary64 w) (minus w) (nat_abs w) 1 = whole_value w (omega arith) in
      let e = sub_whole (of_int binary64 w) (of_int binary64 z) (minus w) (nat_abs w) (minus z) (nat_abs z) vw vz in
      let vh : HasValue (sub binary64 (of_int binary64 w) (of_int binary64 z)) false h 1 = rw e a in
      let g = add_whole (of_int binary64 z) (sub binary64 (of_int binary64 w) (of_int binary64 z)) (minus z) (nat_abs z) false h vz vh in
      let vt : HasValue (add binary64 (of_int binary64 z) (sub binary64 (of_int binary64 w) (of_int binary64 z))) (minus w) (nat_abs w) 1 = rw g b in
      record {
        tall = h;
        small = s;
        height = vh;
        flat = λ n. ap (of_int binary64) (f n);
        top =
            whole_unique binary64 (add binary64 (of_int binary64 z) (sub binary64 (of_int binary64 w) (of_int binary64 z))) (of_int binary64 w) (minus w) (nat_abs w)
            (add-fits binary64 (of_int binary64 z) (sub binary64 (of_int binary64 w) (of_int binary64 z))) (of_int-fits binary64 w) vt vw;
      }

sized : (x : Float) (s : Bool) (a b : ℕ) → a ≡ b → HasValue x s a 1 → HasValue x s b 1
sized x s a b e h = rw e at h

pub spanned : (z w : ℤ) → nat_abs z ≤ 2 ^ 31 → nat_abs w ≤ 2 ^ 31 → T (le_z z w) → Spanned (of_int binary64 z) (of_int binary64 w)
spanned (pos z) (pos w) zs ws h =
    let l : z ≤ w = leb→le z w h in
    spans (pos z) (pos w) zs ws (w - z) (omega arith) (λ n. ap pos (omega arith))
    (elim (lt_or z w) [
      | inl g ↦ under w z (omega arith) false g
      | inr g ↦ sized (sum binary64 false w true z 1) false 0 (w - z) (omega arith) (none w z (omega arith) false (omega arith))
    ])
    (sized (sum binary64 false z false (w - z) 1) false (z + (w - z)) w (omega arith) (alike z (w - z) (omega arith) false))
spanned (pos z) (negsuc w) zs ws h = absurd h
spanned (negsuc z) (pos w) zs ws h =
    spans (negsuc z) (pos w) zs ws (w + suc z) (omega arith) (λ n. absurd (omega arith)) (alike w (suc z) (omega arith) false)
    (elim (lt_or 0 w) [
      | inl g ↦
          sized (sum binary64 true (suc z) false (w + suc z) 1) false (w + suc z - suc z) w (omega arith) (over (suc z) (w + suc z) (omega arith) true (omega arith))
      | inr g ↦ sized (sum binary64 true (suc z) false (w + suc z) 1) false 0 w (omega arith) (none (suc z) (w + suc z) (omega arith) true (omega arith))
    ])
spanned (negsuc z) (negsuc w) zs ws h =
    let l : w ≤ z = leb→le w z h in
    spans (negsuc z) (negsuc w) zs ws (z - w) (omega arith) (λ n. ap negsuc (omega arith))
    (elim (lt_or w z) [
      | inl g ↦ sized (sum binary64 true (suc w) false (suc z) 1) false (suc z - suc w) (z - w) (omega arith) (over (suc w) (suc z) (omega arith) true (omega arith))
      | inr g ↦ sized (sum binary64 true (suc w) false (suc z) 1) false 0 (z - w) (omega arith) (none (suc w) (suc z) (omega arith) true (omega arith))
    ])
    (sized (sum binary64 true (suc z) false (z - w) 1) true (suc z - (z - w)) (suc w) (omega arith) (under (suc z) (z - w) (omega arith) true (omega arith)))
