-- OGC 06-103r4, clause 8: whole numbers and doubles as bytes, in NDR (little endian) or XDR (big endian). In NDR the least significant byte comes first,
-- in XDR the most significant one. A double is the eight bytes of its IEEE 754 pattern.
use Rattle.std.specs.Prelude.{ℕ, zero, suc, ◌+◌, ◌*◌, ◌/◌, ◌%◌, List, [], ◌∷◌, reverse, take, drop}
use Rattle.wkb_fields.specs.declared.ByteOrder.{ByteOrder}
use Rattle.wkb_fields.specs.declared.ByteOrder.TheVariants.{Big, Little}

-- the number that bytes stand for, the least significant first
unfoldable pub little_end : List ℕ → ℕ
little_end [] = 0
little_end (b ∷ bs) = b + 256 * little_end bs

unfoldable pub number_in : ByteOrder → List ℕ → ℕ
number_in Little bs = little_end bs
number_in Big bs = little_end (reverse bs)

-- the number that stands in the w bytes at a place
unfoldable pub field_of : ByteOrder → ℕ → List ℕ → ℕ → ℕ
field_of order w bytes at = number_in order (take w (drop at bytes))

-- And the other way: the w bytes of a number.
unfoldable pub little_bytes : ℕ → ℕ → List ℕ
little_bytes zero n = []
little_bytes (suc w) n = n % 256 ∷ little_bytes w (n / 256)

unfoldable pub bytes_in : ByteOrder → ℕ → ℕ → List ℕ
bytes_in Little w n = little_bytes w n
bytes_in Big w n = reverse (little_bytes w n)
