-- Working definition: the next float up by bit patterns, as the code has it. Patterns from 0 to the infinity's count up
-- the values that are not negative, and those from the sign's bit on count down the others.
-- What it means is `NextUp` of specs/Next.antt, and proofs/NextUp.antt ties the two.
use Rattle.std.specs.Prelude.{Bool, cond, ℕ, ◌+◌, ◌-◌, ltb, eqb, Float}
use Rattle.std.specs.Float.{nan, binary64}
use Rattle.std.specs.Float.Ieee.{is_nan, of_bits, to_bits}

abbrev pub next_bits : ℕ → ℕ
next_bits n =
    cond (ltb n 0x7ff0_0000_0000_0000) (n + 1)
    (cond (eqb n 0x7ff0_0000_0000_0000) n
    (cond (eqb n 0x8000_0000_0000_0000) 1
    (n - 1)))

unfoldable pub next_up_of : Float → Float
next_up_of x = cond (is_nan x) nan (of_bits binary64 (next_bits (to_bits binary64 x)))

-- `cond` between floats, under the name by which crates above cite it
abbrev pub pick_f : Bool → Float → Float → Float
pick_f t a b = cond t a b
