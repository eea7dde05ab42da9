-- Whole numbers held to the ends of a width: by sign and size. Assumes nothing.
use Rattle.std.proofs.Common.{◌≡◌, ℕ, zero, suc, ◌-◌, ◌^◌, ◌<◌, ◌≤◌, min, Bool, true, false, cond, ltb, ℤ, pos, negsuc, ◌-ℤ◌, neg_ℤ, sym, refl, ap, ◌∙◌, subst, arith, lit<, pow_pos, to_z-of_z, w64, SFits, to_z, of_z, ltb-false, ltb-true, le-ltb}
use native.Mathlib.Nat.{min-le_right}
use lib.IntN.{+ℤ_idl}
use lib.Signed.{mag}
use lib.Pow.{suc_ones}
use mir.Facts.{to_z_pos}
use Rattle.whole.specs.Held.{signed, clamp, first, last}

-- held to 0 .. top
pub clamp_top : (top n : ℕ) → clamp (pos 0) (pos top) (pos n) ≡ pos (min n top)
clamp_top top n = rw (le-ltb n 0 (omega arith)) (go (ltb top n) refl)
  where
    go : (x : Bool) → ltb top n ≡ x → cond x (pos top) (pos n) ≡ pos (min n top)
    go true e = ap pos (omega (arith, ltb-true top n e))
    go false e = ap pos (omega (arith, ltb-false top n e))

-- ---- held to -2 ^ h .. 2 ^ h - 1
pub first_is : (h : ℕ) → first h ≡ negsuc (2 ^ h - 1)
first_is h = ap (λ (n : ℕ). neg_ℤ (pos n)) (sym (suc_ones h))

pub clamp_plus : (h n : ℕ) → clamp (first h) (last h) (pos n) ≡ pos (min n (2 ^ h - 1))
clamp_plus h n = rw (first_is h) (go (ltb (2 ^ h - 1) n) refl)
  where
    go : (x : Bool) → ltb (2 ^ h - 1) n ≡ x → cond x (pos (2 ^ h - 1)) (pos n) ≡ pos (min n (2 ^ h - 1))
    go true e = ap pos (omega (arith, ltb-true (2 ^ h - 1) n e))
    go false e = ap pos (omega (arith, ltb-false (2 ^ h - 1) n e))

pub clamp_minus : (h n : ℕ) → clamp (first h) (last h) (neg_ℤ (pos n)) ≡ neg_ℤ (pos (min n (2 ^ h)))
clamp_minus h zero = clamp_plus h 0 ∙ ap pos (none (2 ^ h - 1)) ∙ ap (λ (z : ℕ). neg_ℤ (pos z)) (sym (none (2 ^ h)))
  where
    none : (k : ℕ) → min 0 k ≡ 0
    none k = omega arith
clamp_minus h (suc n) = rw (first_is h) (go (ltb (2 ^ h - 1) n) refl)
  where
    size : suc (2 ^ h - 1) ≡ 2 ^ h
    size = suc_ones h

    go : (x : Bool) → ltb (2 ^ h - 1) n ≡ x → cond x (negsuc (2 ^ h - 1)) (negsuc n) ≡ neg_ℤ (pos (min (suc n) (2 ^ h)))
    go true e = let u : suc (2 ^ h - 1) ≡ min (suc n) (2 ^ h) = omega (arith, size, ltb-true (2 ^ h - 1) n e) in ap (λ (z : ℕ). neg_ℤ (pos z)) u
    go false e = let u : suc n ≡ min (suc n) (2 ^ h) = omega (arith, size, ltb-false (2 ^ h - 1) n e) in ap (λ (z : ℕ). neg_ℤ (pos z)) u

-- ---- -n as the machine makes it
pub minus_fits : (n : ℕ) → n < 2 ^ 63 → SFits w64 (pos 0 -ℤ to_z w64 n)
minus_fits n h = rw (to_z_pos w64 {n = n} h) (go n h)
  where
    go : (n : ℕ) → n < 2 ^ 63 → SFits w64 (pos 0 -ℤ pos n)
    go zero h = record { sfits = lit< tt }
    go (suc k) h = rw (+ℤ_idl (negsuc k)) (record { sfits = omega arith })

pub minus_is : (n : ℕ) → n < 2 ^ 63 → to_z w64 (of_z w64 (pos 0 -ℤ to_z w64 n)) ≡ neg_ℤ (pos n)
minus_is n h = to_z-of_z (minus_fits n h) ∙ rw (to_z_pos w64 {n = n} h) (+ℤ_idl (neg_ℤ (pos n)))

-- ---- what is held is an i64, which the machine reads back
mag_neg : (k N : ℕ) → 0 < N → k ≤ N → mag (neg_ℤ (pos k)) < N
mag_neg zero N p h = p
mag_neg (suc k) N p h = h

clamp_mag : (h : ℕ) (z : ℤ) → mag (clamp (first h) (last h) z) < 2 ^ h
clamp_mag h (pos n) = rw (clamp_plus h n) (lower n (2 ^ h) (pow_pos h))
  where
    lower : (n p : ℕ) → 0 < p → min n (p - 1) < p
    lower n p h = omega arith
clamp_mag h (negsuc n) = rw (clamp_minus h (suc n)) (mag_neg (min (suc n) (2 ^ h)) (2 ^ h) (pow_pos h) (min-le_right (suc n) (2 ^ h)))

pub held_back : (r z : ℤ) → r ≡ clamp (first 63) (last 63) z → to_z w64 (of_z w64 r) ≡ r
held_back r z e = to_z-of_z {w = w64} {z = r} (record { sfits = subst (λ (k : ℤ). mag k < 2 ^ 63) (sym e) (clamp_mag 63 z) })

-- ---- the ways out of `with_sign`
abbrev Promise : Bool → ℕ → ℤ → Type 0
Promise b n r = r ≡ clamp (first 63) (last 63) (signed b n)

pub minus_inside : (b : Bool) (n : ℕ) → b ≡ true → n < 2 ^ 63 → Promise b n (neg_ℤ (pos n))
minus_inside b n e h = rw e (let u : n ≡ min n (2 ^ 63) = omega arith in ap (λ (z : ℕ). neg_ℤ (pos z)) u ∙ sym (clamp_minus 63 n))

pub minus_end : (b : Bool) (n : ℕ) → b ≡ true → 2 ^ 63 ≤ n → Promise b n (first 63)
minus_end b n e h = rw e (let u : 2 ^ 63 ≡ min n (2 ^ 63) = omega arith in ap (λ (z : ℕ). neg_ℤ (pos z)) u ∙ sym (clamp_minus 63 n))

pub plus_inside : (b : Bool) (n : ℕ) → b ≡ false → n < 2 ^ 63 → Promise b n (pos n)
plus_inside b n e h = rw e (let u : n ≡ min n (2 ^ 63 - 1) = omega arith in ap pos u ∙ sym (clamp_plus 63 n))

pub plus_end : (b : Bool) (n : ℕ) → b ≡ false → 2 ^ 63 ≤ n → Promise b n (last 63)
plus_end b n e h = rw e (let u : 2 ^ 63 - 1 ≡ min n (2 ^ 63 - 1) = omega arith in ap pos u ∙ sym (clamp_plus 63 n))
