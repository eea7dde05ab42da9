-- Rounding to the nearest whole number, halves away from zero: `round_of` is it, and there is one. Assumes nothing.
use Rattle.std.proofs.Common.{◌≡◌, ℕ, zero, suc, ◌+◌, ◌-◌, ◌*◌, ◌/◌, ◌<◌, ◌≤◌, ℤ, pos, negsuc, ◌-ℤ◌, ◌*ℤ◌, neg_ℤ, nat_abs, sym, refl, ap, ◌∙◌, mul-le-mul_right, zero-lt-suc, lt-suc_self, div-lt_iff_lt-mul, le_antisymm, mul-pos, div-mul-le_self, arith}
use native.Mathlib.Decide.{dec_le, dec_lt}
use lib.IntN.{neg_ℤ-neg_ℤ}
use lib.Ieee.{Float}
use Rattle.whole.specs.Held.{first, last}
use Rattle.whole.specs.Round.{far, NearestAway, round_of, RoundTo, round_to}
use Rattle.whole.proofs.Held.{held_meets, held_only}
use Rattle.whole.proofs.Integers.{nat_abs_neg, apart, across, apart_neg, neg_mul}

-- ---- of a / d
module _ (a d : ℕ) (D : 0 < d) where
  q : ℕ
  q = (2 * a + d) / (2 * d)

  low : q * (2 * d) ≤ 2 * a + d
  unfolding q
  low = div-mul-le_self (2 * a + d) (2 * d)

  high : 2 * a + d < suc q * (2 * d)
  unfolding q
  high = (div-lt_iff_lt-mul (mul-pos (zero-lt-suc 1) D)).0 (lt-suc_self ((2 * a + d) / (2 * d)))

  near : (i : ℕ) → a - q * d + (q * d - a) ≤ a - i * d + (i * d - a)
  near i = elim (dec_le i q) [
    | yes h ↦ elim (dec_lt i q) [
      | yes l ↦ omega (arith, low, high, mul-le-mul_right d l)
      | no n ↦ let e : i ≡ q = omega arith in omega (arith, ap (λ (z : ℕ). z * d) e)
    ]
    | no n ↦ let l : suc q ≤ i = omega arith in omega (arith, low, high, mul-le-mul_right d l)
  ]

  no_farther : (i : ℕ) → a - i * d + (i * d - a) ≡ a - q * d + (q * d - a) → i ≤ q
  no_farther i h = elim (dec_le i q) [
    | yes l ↦ l
    | no n ↦ let l : suc q ≤ i = omega arith in omega (arith, low, high, mul-le-mul_right d l)
  ]

  nearest_pos : NearestAway (pos a) d (pos q)
  nearest_pos = record {
    nearest = λ j. nearest j;
    away = λ j. away j;
  }
    where
      nearest : (j : ℤ) → far (pos a) d (pos q) ≤ far (pos a) d j
      nearest (pos i) = rw (apart a (q * d), apart a (i * d)) (near i)
      nearest (negsuc i) = rw (apart a (q * d), across a (suc i * d)) (omega (arith, low, high, D))

      away : (j : ℤ) → far (pos a) d j ≡ far (pos a) d (pos q) → nat_abs j ≤ q
      away (pos i) h = no_farther i (rw (apart a (q * d), apart a (i * d)) at h)
      away (negsuc i) h = let k : a + suc i * d ≡ a - q * d + (q * d - a) = rw (apart a (q * d), across a (suc i * d)) at h in omega (arith, low, high, D)

-- ---- and of -a / d
far_neg : (v : ℤ) (d : ℕ) (j : ℤ) → far (neg_ℤ v) d (neg_ℤ j) ≡ far v d j
far_neg v d j = ap (λ (z : ℤ). nat_abs (neg_ℤ v -ℤ z)) (neg_mul j d) ∙ apart_neg v (j *ℤ pos d)

far_back : (v : ℤ) (d : ℕ) (j : ℤ) → far (neg_ℤ v) d j ≡ far v d (neg_ℤ j)
far_back v d j = ap (far (neg_ℤ v) d) (sym (neg_ℤ-neg_ℤ j)) ∙ far_neg v d (neg_ℤ j)

mirror : (v : ℤ) (d : ℕ) (k : ℤ) → NearestAway v d k → NearestAway (neg_ℤ v) d (neg_ℤ k)
mirror v d k n = record {
  nearest = λ j. rw (far_neg v d k, far_back v d j) (n.nearest (neg_ℤ j));
  away = λ j h. rw (nat_abs_neg k, ← nat_abs_neg j) (n.away (neg_ℤ j) (sym (far_back v d j) ∙ h ∙ far_neg v d k));
}

pub round_meets : (v : ℤ) (d : ℕ) → 0 < d → NearestAway v d (round_of v d)
unfolding q
round_meets (pos n) d D = nearest_pos n d D
round_meets (negsuc n) d D = mirror (pos (suc n)) d (pos ((2 * suc n + d) / (2 * d))) (nearest_pos (suc n) d D)

-- ---- there is one: it has the sign of v, and two that are as near have one size
not_below_lem : (a d : ℕ) (j : ℕ) → 0 < d → NearestAway (pos a) d (negsuc j) → ⊥
not_below_lem a d j D n =
    let h : a + suc j * d ≤ a - 0 * d + (0 * d - a) = rw (across a (suc j * d), apart a (0 * d)) at (n.nearest (pos 0)) in
    omega (arith, D)

not_above : (n d : ℕ) (j : ℕ) → 0 < d → NearestAway (negsuc n) d (pos (suc j)) → ⊥
not_above n d j D p = not_below_lem (suc n) d j D (mirror (negsuc n) d (pos (suc j)) p)

one_size : (v : ℤ) (d : ℕ) (k k' : ℤ) → NearestAway v d k → NearestAway v d k' → nat_abs k ≡ nat_abs k'
one_size v d k k' p q =
    let e : far v d k ≡ far v d k' = le_antisymm (p.nearest k') (q.nearest k) in
    le_antisymm (q.away k e) (p.away k' (sym e))

pub round_only : (v : ℤ) (d : ℕ) (k k' : ℤ) → 0 < d → NearestAway v d k → NearestAway v d k' → k ≡ k'
round_only (pos a) d (negsuc i) k' D p q = absurd (not_below_lem a d i D p)
round_only (pos a) d (pos i) (negsuc j) D p q = absurd (not_below_lem a d j D q)
round_only (pos a) d (pos i) (pos j) D p q = ap pos (one_size (pos a) d (pos i) (pos j) p q)
round_only (negsuc n) d (pos (suc i)) k' D p q = absurd (not_above n d i D p)
round_only (negsuc n) d (pos zero) (pos (suc j)) D p q = absurd (not_above n d j D q)
round_only (negsuc n) d (pos zero) (pos zero) D p q = refl
round_only (negsuc n) d (pos zero) (negsuc j) D p q = absurd (clash (one_size (negsuc n) d (pos 0) (negsuc j) p q))
  where
    clash : 0 ≡ suc j → ⊥
    clash h = omega arith
round_only (negsuc n) d (negsuc i) (pos (suc j)) D p q = absurd (not_above n d j D q)
round_only (negsuc n) d (negsuc i) (pos zero) D p q = absurd (clash (one_size (negsuc n) d (negsuc i) (pos 0) p q))
  where
    clash : suc i ≡ 0 → ⊥
    clash h = omega arith
round_only (negsuc n) d (negsuc i) (negsuc j) D p q = ap negsuc (less (one_size (negsuc n) d (negsuc i) (negsuc j) p q))
  where
    less : suc i ≡ suc j → i ≡ j
    less h = omega arith

-- ---- over the width
pub round_to_meets : (h : ℕ) (x : Float) → RoundTo h x (round_to h x)
unfolding round_to
round_to_meets h x = held_meets NearestAway (first h) (last h) round_of round_meets x

pub round_to_only : (h : ℕ) (x : Float) (z z' : ℤ) → RoundTo h x z → RoundTo h x z' → z ≡ z'
round_to_only h x z z' p q = held_only NearestAway (first h) (last h) round_only x z z' p q
