-- The floor: `floor_of` is the greatest whole number not above, there is one, and a larger value has no smaller floor. Assumes nothing.
use Rattle.std.proofs.Common.{◌≡◌, ℕ, zero, suc, ◌+◌, ◌-◌, ◌*◌, ◌/◌, ◌^◌, ◌<◌, ◌≤◌, Bool, true, false, T, ℤ, pos, negsuc, ◌*ℤ◌, ◌≤ℤ◌, zero-le, le_of_suc-le-suc, mul-le-mul_right, lt-suc_self, div-lt_iff_lt-mul, le-div_iff_mul-le, div-mul-le_self, le_of_mul-le-mul_right, arith, le→leb, leb→le}
use native.Mathlib.Nat.{zero-div}
use lib.Signed.{le_z}
use lib.Ieee.{Float, nan, inf, fin, up, down, le}
use lib.Ieee.Fits.{down_pos}
use lib.Ieee.Nearest.{div_mono}
use Rattle.floats.proofs.Parts.{Cross≤, crossed}
use Rattle.whole.specs.Held.{signed, held, first, last}
use Rattle.whole.specs.Floor.{Floor, floor_of, FloorTo, floor_to}
use Rattle.whole.proofs.Held.{held_meets, held_only, clamp_low, clamp_high, clamp_mono}
use Rattle.whole.proofs.Integers.{neg_le, le_neg, neg_le_pos, le_z_refl, ≤ℤ_antisym}

pub floor_meets : (v : ℤ) (d : ℕ) → 0 < d → Floor v d (floor_of v d)
floor_meets (pos n) d D = record {
  below = record { le = le→leb (n / d * d) n (div-mul-le_self n d) };
  greatest = λ j h. record { le = under j h.le };
}
  where
    under : (j : ℤ) → T (le_z (j *ℤ pos d) (pos n)) → T (le_z j (pos (n / d)))
    under (pos i) h = le→leb i (n / d) ((le-div_iff_mul-le D).1 (leb→le (i * d) n h))
    under (negsuc i) h = tt
floor_meets (negsuc n) d D = record {
  below = record { le = neg_le (suc (n / d) * d) n ((div-lt_iff_lt-mul D).0 (lt-suc_self (n / d))) };
  greatest = λ j h. record { le = under j h.le };
}
  where
    under : (j : ℤ) → T (le_z (j *ℤ pos d) (negsuc n)) → T (le_z j (negsuc (n / d)))
    under (pos i) h = absurd h
    under (negsuc i) h = le→leb (n / d) i (le_of_suc-le-suc ((div-lt_iff_lt-mul D).1 (le_neg (suc i * d) n h)))

pub floor_only : (v : ℤ) (d : ℕ) (k k' : ℤ) → Floor v d k → Floor v d k' → k ≡ k'
floor_only v d k k' p q = ≤ℤ_antisym (q.greatest k p.below) (p.greatest k' q.below)

-- ---- a larger value has no smaller floor
floor_of_mono : (s t : Bool) (a p b q : ℕ) → 0 < p → 0 < q → Cross≤ s a p t b q → T (le_z (floor_of (signed s a) p) (floor_of (signed t b) q))
floor_of_mono false false a p b q P Q h = le→leb (a / p) (b / q) (div_mono a p b q P Q (omega arith))
floor_of_mono true false zero p b q P Q h = le→leb (0 / p) (b / q) (rw (zero-div p) zero-le)
floor_of_mono true false (suc a) p b q P Q h = tt
floor_of_mono false true zero p zero q P Q h = le→leb (0 / p) (0 / q) (rw (zero-div p) zero-le)
floor_of_mono false true zero p (suc b) q P Q h = absurd (some b p q P h)
  where
    some : (b p q : ℕ) → 0 < p → 0 * q + suc b * p ≤ 0 * p + 0 * q → ⊥
    some b p q P h = omega (arith, P)
floor_of_mono false true (suc a) p b q P Q h = absurd (some a b p q Q h)
  where
    some : (a b p q : ℕ) → 0 < q → suc a * q + b * p ≤ 0 * p + 0 * q → ⊥
    some a b p q Q h = omega (arith, Q)
floor_of_mono true true zero p zero q P Q h = le→leb (0 / p) (0 / q) (rw (zero-div p) zero-le)
floor_of_mono true true zero p (suc b) q P Q h = absurd (some b p q P h)
  where
    some : (b p q : ℕ) → 0 < p → 0 * q + suc b * p ≤ 0 * p + 0 * q → ⊥
    some b p q P h = omega (arith, P)
floor_of_mono true true (suc a) p zero q P Q h = tt
floor_of_mono true true (suc a) p (suc b) q P Q h =
    le→leb (b / q) (a / p)
    (le_of_suc-le-suc ((div-lt_iff_lt-mul Q).1 (le_of_mul-le-mul_right {k = p} (wide (a / p) a p b q ((div-lt_iff_lt-mul P).0 (lt-suc_self (a / p))) h) P)))
  where
    wide : (r a p b q : ℕ) → a < suc r * p → 0 * q + suc b * p ≤ 0 * p + suc a * q → suc b * p ≤ suc r * q * p
    wide r a p b q k h = omega (arith, mul-le-mul_right q k)

-- ---- and so when held
module _ (lo hi : ℤ) (o : T (le_z lo hi)) where
  pub held_mono : (x y : Float) → T (le x y) → T (le_z (held floor_of lo hi x) (held floor_of lo hi y))
  unfolding le
  held_mono nan y h = absurd h
  held_mono (inf s) nan h = absurd h
  held_mono (inf true) (inf true) h = le_z_refl lo
  held_mono (inf true) (inf false) h = o
  held_mono (inf false) (inf true) h = absurd h
  held_mono (inf false) (inf false) h = le_z_refl hi
  held_mono (inf true) (fin t n d) h = clamp_low lo hi o (floor_of (signed t (n * up d)) (down d))
  held_mono (inf false) (fin t n d) h = absurd h
  held_mono (fin s m e) nan h = absurd h
  held_mono (fin s m e) (inf true) h = absurd h
  held_mono (fin s m e) (inf false) h = clamp_high lo hi o (floor_of (signed s (m * up e)) (down e))
  held_mono (fin s m e) (fin t n d) h =
      clamp_mono lo hi o (floor_of (signed s (m * up e)) (down e)) (floor_of (signed t (n * up d)) (down d))
      (floor_of_mono s t (m * up e) (down e) (n * up d) (down d) (down_pos e) (down_pos d) (crossed s m e t n d h))

-- ---- over the width
ends_ordered : (h : ℕ) → T (le_z (first h) (last h))
ends_ordered h = neg_le_pos (2 ^ h) (2 ^ h - 1)

pub floor_to_meets : (h : ℕ) (x : Float) → FloorTo h x (floor_to h x)
unfolding floor_to
floor_to_meets h x = held_meets Floor (first h) (last h) floor_of floor_meets x

pub floor_to_only : (h : ℕ) (x : Float) (z z' : ℤ) → FloorTo h x z → FloorTo h x z' → z ≡ z'
floor_to_only h x z z' p q = held_only Floor (first h) (last h) (λ v d k k' D. floor_only v d k k') x z z' p q

pub floor_mono : (h : ℕ) (x y : Float) → T (le x y) → floor_to h x ≤ℤ floor_to h y
unfolding floor_to
floor_mono h x y k = record { le = held_mono (first h) (last h) (ends_ordered h) x y k }
