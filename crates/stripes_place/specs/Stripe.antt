-- 01, "Stripes": which stripe a height is in.
use Rattle.std.specs.Prelude.{ℕ, ◌-◌, cond, pos, from_bits, Float}
use Rattle.std.specs.Float.{binary64}
use Rattle.std.specs.Float.Ieee.{eq, sub, mul, div, of_int}
use Rattle.whole.specs.Floor.{floor_within}

-- (y - least)/height * stripes, each operation rounded once
abbrev pub place_of : Float → Float → Float → ℕ → Float
place_of y least height stripes = mul binary64 (div binary64 (sub binary64 y least) height) (of_int binary64 (pos stripes))

-- "Stripe of y: floor((y - least)/height * stripes), clamped to the first and last; stripe 0 if height is 0; a NaN quotient gives 0."
-- With no stripes the answer is 0.
unfoldable pub stripe_of : Float → Float → Float → ℕ → ℕ
stripe_of y least height stripes = cond (eq height (from_bits binary64 0)) 0 (floor_within (stripes - 1) (place_of y least height stripes))
