-- A float rounded to a whole number and held to two ends, as Rust's `as` holds it.
-- `fin s m e` is exactly the fraction `signed s (m * up e)` over `down e`, so a way of rounding is a relation, or a
-- function, of a whole number v and a natural number d above 0, which says what v / d is rounded to.
use Rattle.std.specs.Prelude.{◌≡◌, ℕ, ◌-◌, ◌*◌, ◌^◌, Bool, true, false, cond, ℤ, pos, neg_ℤ, int_lt, Float}
use Rattle.std.specs.Float.{nan, inf, fin}
use Rattle.std.specs.Float.Ieee.{up, down}

-- a, or -a
abbrev pub signed : Bool → ℕ → ℤ
signed false a = pos a
signed true a = neg_ℤ (pos a)

-- k where it lies from lo to hi, and else the end that is nearer
abbrev pub clamp : ℤ → ℤ → ℤ → ℤ
clamp lo hi k = cond (int_lt k lo) lo (cond (int_lt hi k) hi k)

-- z is x rounded by R and held to lo .. hi. An infinity gives its end and a NaN gives 0.
abbrev pub Held : (ℤ → ℕ → ℤ → Type 0) → ℤ → ℤ → Float → ℤ → Type 0
Held R lo hi nan z = z ≡ pos 0
Held R lo hi (inf true) z = z ≡ lo
Held R lo hi (inf false) z = z ≡ hi
Held R lo hi (fin s m e) z = (k : ℤ) × R (signed s (m * up e)) (down e) k × (z ≡ clamp lo hi k)

-- the same, computed by a function g
abbrev pub held : (ℤ → ℕ → ℤ) → ℤ → ℤ → Float → ℤ
held g lo hi nan = pos 0
held g lo hi (inf true) = lo
held g lo hi (inf false) = hi
held g lo hi (fin s m e) = clamp lo hi (g (signed s (m * up e)) (down e))

-- the ends of a whole number of h binary digits and a sign: h is 63 for an i64
abbrev pub first : ℕ → ℤ
first h = neg_ℤ (pos (2 ^ h))

abbrev pub last : ℕ → ℤ
last h = pos (2 ^ h - 1)
