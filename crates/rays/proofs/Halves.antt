-- Between two whole numbers of size below 2 ^ 52 there is a float, the lower one and a half, so that neither is the next float up from the other.
-- Assumes nothing.
use mathlib.Core.Path.{◌≡◌, refl, sym, ap, ◌∙◌}
use Prim.Native.Nat.{ℕ, suc, ◌+◌, ◌*◌, ◌^◌, ◌≤◌, ◌<◌}
use native.Mathlib.Nat.{mul-pos, mul_assoc, mul_comm, mul_left_comm, mul-lt-mul_of_pos_right, lt_of_mul-lt-mul_right, add-mul, zero-mul, zero-lt-suc, lt_trans}
use native.Mathlib.Omega.{arith}
use mathlib.Core.Bool.{Bool, true, false}
use lib.IntN.{ℤ, pos, negsuc, nat_abs}
use lib.Signed.{lt_z, mag}
use lib.Dec.{T, ltb→lt, lt→ltb, lit<}
use lib.Pow.{shl_lt, pow-lt}
use lib.Ieee.{Float, nan, inf, fin, binary64, up, down, round, of_int, lt, is_nan, below}
use lib.Ieee.Fits.{down_pos, round-fits}
use lib.Ieee.Exact.{HasValue, round_exact}
use Rattle.floats.proofs.Least.{rank}
use Rattle.floats.proofs.Ranks.{Number, lt_is}
use Rattle.floats.proofs.Ints.{minus, whole_value, of_int_lt, of_int_number}

-- ---- the order of two fractions is that of the floats that they are
under : (u v w z k l : ℕ) → 0 < l → u * k ≡ w * l → v * k ≡ z * l → w < z → u < v
under u v w z k l L p q h = lt_of_mul-lt-mul_right k (rw (p, q) (mul-lt-mul_of_pos_right h L))

signed : (s t : Bool) (u v w z k l : ℕ) → 0 < l → u * k ≡ w * l → v * k ≡ z * l → T (below s w t z) → T (below s u t v)
signed false false u v w z k l L p q h = lt→ltb u v (under u v w z k l L p q (ltb→lt w z h))
signed false true u v w z k l L p q h = h
signed true false u v w z k l L p q h =
    lt→ltb 0 (u + v) (under 0 (u + v) 0 (w + z) k l L (zero-mul k ∙ sym (zero-mul l)) (add-mul u v k ∙ rw (p, q, add-mul w z l)) (ltb→lt 0 (w + z) h))
signed true true u v w z k l L p q h = lt→ltb v u (under v u z w k l L q p (ltb→lt z w h))

crossed : (x e g a c d : ℕ) → x * c ≡ a * e → x * g * (c * d) ≡ a * d * (e * g)
crossed x e g a c d h = simp (mul_assoc, mul_comm, mul_left_comm) (simp (mul_assoc, mul_comm, mul_left_comm) at (ap (λ (z : ℕ). z * (g * d)) h))

-- ±a / c < ±b / d
lt_of_values : (x y : Float) (s t : Bool) (a b c d : ℕ) → HasValue x s a c → HasValue y t b d → T (below s (a * d) t (b * c)) → T (lt x y)
unfolding lt
lt_of_values nan y s t a b c d p q h = absurd p
lt_of_values (inf r) y s t a b c d p q h = absurd p
lt_of_values (fin r m e) nan s t a b c d p q h = absurd q
lt_of_values (fin r m e) (inf u) s t a b c d p q h = absurd q
lt_of_values (fin r m e) (fin u n g) s t a b c d p q h =
    rw (p.0, q.0)
    (signed s t (m * up e * down g) (n * up g * down e) (a * d) (b * c) (c * d) (down e * down g) (mul-pos (down_pos e) (down_pos g)) (crossed (m * up e) (down e) (down g) a c d p.1)
    (ap (λ (z : ℕ). n * up g * down e * z) (mul_comm c d) ∙ crossed (n * up g) (down g) (down e) b d c q.1 ∙ ap (λ (z : ℕ). b * c * z) (mul_comm (down g) (down e))) h)

-- ---- a whole number and a half
abbrev step : ℤ → ℕ
step (pos n) = n
step (negsuc n) = n

half : ℤ → Float
half z = round binary64 (minus z) (step z * 2 + 1) 2

half_value : (z : ℤ) → nat_abs z < 2 ^ 52 → HasValue (half z) (minus z) (step z * 2 + 1) 2
unfolding half
half_value z h =
    let q = step z * 2 + 1 in
    round_exact binary64 (minus z) q 2 q 1073 (zero-lt-suc 1) (small z h) (lt_trans (shl_lt 53 1073 (small z h)) (pow-lt {i = 1126} {j = 2098} (lit< tt))) (sym (mul_assoc q (2 ^ 1073) 2))
  where
    small : (z : ℤ) → nat_abs z < 2 ^ 52 → step z * 2 + 1 < 2 ^ 53
    small (pos n) h = omega arith
    small (negsuc n) h = omega arith

no_nan : (x : Float) (s : Bool) (a c : ℕ) → HasValue x s a c → is_nan x ≡ false
unfolding is_nan
no_nan nan s a c h = absurd h
no_nan (inf t) s a c h = refl
no_nan (fin t m e) s a c h = refl

half_number : (z : ℤ) → nat_abs z < 2 ^ 52 → Number (half z)
unfolding half
half_number z h = (round-fits binary64 (minus z) (step z * 2 + 1) 2, no_nan (half z) (minus z) (step z * 2 + 1) 2 (half_value z h))

-- every i32 is that near
pub near : (z : ℤ) → mag z < 2 ^ 31 → nat_abs z < 2 ^ 52
near (pos n) h = omega arith
near (negsuc n) h = omega arith

pub in_reach : (z : ℤ) → nat_abs z < 2 ^ 52 → nat_abs z ≤ 2 ^ 53
in_reach z h = omega arith

pub whole_number : (z : ℤ) → nat_abs z < 2 ^ 52 → Number (of_int binary64 z)
whole_number z h = of_int_number z (in_reach z h)

above : (z : ℤ) → T (below (minus z) (nat_abs z * 2) (minus z) ((step z * 2 + 1) * 1))
above (pos n) = lt→ltb (n * 2) ((n * 2 + 1) * 1) (omega arith)
above (negsuc n) = lt→ltb ((n * 2 + 1) * 1) (suc n * 2) (omega arith)

short : (z w : ℤ) → T (lt_z z w) → T (below (minus z) ((step z * 2 + 1) * 1) (minus w) (nat_abs w * 2))
short (pos n) (pos m) h = lt→ltb ((n * 2 + 1) * 1) (m * 2) (omega (arith, ltb→lt n m h))
short (pos n) (negsuc m) h = h
short (negsuc n) (pos m) h = lt→ltb 0 ((n * 2 + 1) * 1 + m * 2) (omega arith)
short (negsuc n) (negsuc m) h = lt→ltb (suc m * 2) ((n * 2 + 1) * 1) (omega (arith, ltb→lt m n h))

module _ (z w : ℤ) (Z : nat_abs z < 2 ^ 52) (W : nat_abs w < 2 ^ 52) where
  -- a float stands between
  pub apart : T (lt_z z w) → suc (rank (of_int binary64 z)) < rank (of_int binary64 w)
  apart h =
      let low = ltb→lt (rank (of_int binary64 z)) (rank (half z)) (rw (← lt_is (of_int binary64 z) (half z) (whole_number z Z) (half_number z Z)) (lt_of_values (of_int binary64 z) (half z) (minus z) (minus z) (nat_abs z) (step z * 2 + 1) 1 2 (whole_value z (in_reach z Z)) (half_value z Z) (above z))) in
      let high = ltb→lt (rank (half z)) (rank (of_int binary64 w)) (rw (← lt_is (half z) (of_int binary64 w) (half_number z Z) (whole_number w W)) (lt_of_values (half z) (of_int binary64 w) (minus z) (minus w) (step z * 2 + 1) (nat_abs w) 2 1 (half_value z Z) (whole_value w (in_reach w W)) (short z w h))) in
      two (rank (of_int binary64 z)) (rank (half z)) (rank (of_int binary64 w)) low high
    where
      two : (i j k : ℕ) → i < j → j < k → suc i < k
      two i j k p q = omega arith

  -- so the next float up from one is not the other
  pub not_next : rank (of_int binary64 w) ≡ suc (rank (of_int binary64 z)) → ⊥
  not_next e =
      let l : T (lt (of_int binary64 z) (of_int binary64 w)) = rw (lt_is (of_int binary64 z) (of_int binary64 w) (whole_number z Z) (whole_number w W)) (lt→ltb (rank (of_int binary64 z)) (rank (of_int binary64 w)) (omega (arith, e))) in
      clash (rank (of_int binary64 z)) (rank (of_int binary64 w)) e (apart (rw (of_int_lt z w (in_reach z Z) (in_reach w W)) at l))
    where
      clash : (i k : ℕ) → k ≡ suc i → suc i < k → ⊥
      clash i k p q = omega arith
