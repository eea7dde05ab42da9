-- The nearest whole number, halves away from zero, held to two ends. IEEE 754-2019 has it as roundToIntegralTiesToAway (5.9) and, into an integer format,
-- as convertToIntegerTiesToAway (5.8). What has no place in the format is an invalid operation there; that it is held to the ends, and that a NaN gives 0,
-- is Rust's `as`.
-- The relation leaves room for one answer only: `round_to_only` of proofs/Rounds.antt.
use Rattle.std.specs.Prelude.{◌≡◌, ℕ, suc, ◌+◌, ◌*◌, ◌/◌, ◌≤◌, ℤ, pos, negsuc, ◌-ℤ◌, ◌*ℤ◌, neg_ℤ, unsigned_abs, Float}
use Rattle.whole.specs.Held.{Held, held, first, last}

-- how far the whole number k is from v / d, in units of 1 / d
abbrev pub far : ℤ → ℕ → ℤ → ℕ
far v d k = unsigned_abs (v -ℤ k *ℤ pos d)

-- No whole number is nearer to v / d than k; and of those that are as near, k is the one of largest size (4.3.1: "the one
-- with larger magnitude").
pub record NearestAway (v : ℤ) (d : ℕ) (k : ℤ) : Type 0 where
  pub nearest : (j : ℤ) → far v d k ≤ far v d j
  pub away : (j : ℤ) → far v d j ≡ far v d k → unsigned_abs j ≤ unsigned_abs k

-- the size of v / d and a half, cut
abbrev pub round_of : ℤ → ℕ → ℤ
round_of (pos n) d = pos ((2 * n + d) / (2 * d))
round_of (negsuc n) d = neg_ℤ (pos ((2 * suc n + d) / (2 * d)))

-- Rust's `x.round() as i64` at h = 63: held to -2 ^ h .. 2 ^ h - 1, and 0 at a NaN
abbrev pub RoundTo : ℕ → Float → ℤ → Type 0
RoundTo h x z = Held NearestAway (first h) (last h) x z

unfoldable pub round_to : ℕ → Float → ℤ
round_to h x = held round_of (first h) (last h) x
