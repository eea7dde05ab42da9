-- The floor: the greatest whole number not above x, held to two ends. IEEE 754-2019 has it as roundToIntegralTowardNegative (5.9) and, into an integer
-- format, as convertToIntegerTowardNegative (5.8). What has no place in the format is an invalid operation there; that it is held to the ends, and that
-- a NaN gives 0, is Rust's `as`.
-- Each relation leaves room for one answer only: `floor_to_only` of proofs/Floors.antt and `within_only` of proofs/Within.antt.
use Rattle.std.specs.Prelude.{ℕ, ◌/◌, ℤ, pos, negsuc, ◌*ℤ◌, ◌≤ℤ◌, unsigned_abs, Float}
use Rattle.whole.specs.Held.{Held, held, first, last}

-- k is the greatest whole number not above v / d
pub record Floor (v : ℤ) (d : ℕ) (k : ℤ) : Type 0 where
  pub below : (k *ℤ pos d) ≤ℤ v
  pub greatest : (j : ℤ) → (j *ℤ pos d) ≤ℤ v → j ≤ℤ k

abbrev pub floor_of : ℤ → ℕ → ℤ
floor_of (pos n) d = pos (n / d)
floor_of (negsuc n) d = negsuc (n / d)

-- Rust's `x.floor() as i64` at h = 63: held to -2 ^ h .. 2 ^ h - 1, and 0 at a NaN
abbrev pub FloorTo : ℕ → Float → ℤ → Type 0
FloorTo h x z = Held Floor (first h) (last h) x z

unfoldable pub floor_to : ℕ → Float → ℤ
floor_to h x = held floor_of (first h) (last h) x

-- the floor held to 0 .. top, as 01 clamps a stripe to the first and last: 0 at a NaN
abbrev pub FloorWithin : ℕ → Float → ℕ → Type 0
FloorWithin top x r = Held Floor (pos 0) (pos top) x (pos r)

unfoldable pub floor_within : ℕ → Float → ℕ
floor_within top x = unsigned_abs (held floor_of (pos 0) (pos top) x)
