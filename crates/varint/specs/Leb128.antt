-- Unsigned LEB128 numbers, from DWARF 5, section 7.6 and the algorithms of its Appendix C. A byte has seven bits of the
-- number, the first byte the lowest seven, and a high bit that is set on each byte but the last.
use Rattle.std.specs.Prelude.{ℕ, zero, suc, ◌+◌, ◌*◌, ◌/◌, ◌%◌, List, [], ◌∷◌, true, false, cond, ltb, eqb}

-- the number that the bytes up to and including the first whose high bit is clear stand for
unfoldable pub decode : List ℕ → ℕ
decode [] = 0
decode (b ∷ bs) = b % 128 + cond (ltb b 128) 0 (128 * decode bs)

-- how many bytes that is; where no high bit is clear, one more than there are
unfoldable pub size : List ℕ → ℕ
size [] = 1
size (b ∷ bs) = cond (ltb b 128) 1 (suc (size bs))

-- The bytes of x: its low seven bits, with the high bit set and those of the rest behind it where the rest is not 0.
-- Each turn divides by 128, so that x turns are enough.
unfoldable pub encode_in : ℕ → ℕ → List ℕ
encode_in zero x = x % 128 ∷ []
encode_in (suc turns) x =
    elim (eqb (x / 128) 0) [ true ↦ x % 128 ∷ [] | false ↦ (x % 128 + 128) ∷ encode_in turns (x / 128) ]

unfoldable pub encode : ℕ → List ℕ
encode x = encode_in x x
