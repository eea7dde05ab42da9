-- What the inner functions hand on.
use Rattle.std.specs.Prelude.{◌≡◌, false, ℕ, ◌+◌, ◌*◌, ◌^◌, ◌≤◌, ◌<◌}
use Rattle.std.specs.Float.{binary64}
use Rattle.std.specs.Float.Ieee.{of_bits}
use Rattle.std.specs.Float.Ieee.Exact.{HasValue}
use Rattle.root.specs.Computed.{sqrt_of}

-- q is the whole root of n, and rem is what is left
pub record Rooted (n q rem : ℕ) : Type 0 where
  pub whole : q * q + rem ≡ n
  pub rest : rem ≤ 2 * q

-- the float with the pattern n is digits * 4 ^ field / 2 ^ 2098, with 53 or 54 binary digits: its root's digits are
-- those of the root of `digits`, and its root's exponent has the field `field`
pub record ScaledTo (n digits field : ℕ) : Type 0 where
  pub same : HasValue (of_bits binary64 n) false (digits * 4 ^ field) (2 ^ 2098)
  pub long : 2 ^ 52 ≤ digits
  pub short : digits < 2 ^ 54
  pub low : 1 ≤ field
  pub high : field < 2046

-- b is the pattern of the root of the float with the pattern n, and no infinity's or NaN's
pub record RootBits (n b : ℕ) : Type 0 where
  pub root : of_bits binary64 b ≡ sqrt_of binary64 (of_bits binary64 n)
  pub finite : b < 0x7ff0_0000_0000_0000
