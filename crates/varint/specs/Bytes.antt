-- A slice of bytes is lent as u8. A list of numbers doesn't say so by itself; whatever is lent as `&[u8]` meets it.
use Rattle.std.specs.Prelude.{ℕ, ◌<◌, List, get_or}

-- every number of the list is a byte
abbrev pub Bytes : List ℕ → Type 0
Bytes bs = (i : ℕ) → get_or bs i 0 < 256
