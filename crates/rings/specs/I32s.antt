-- A ring's numbers, or an outline's, are lent as i32. A list of whole numbers doesn't say so by itself; whatever is lent as `&[i32]` meets it.
use Rattle.std.specs.Prelude.{ℕ, ◌^◌, ◌<◌, List, length, get_or, ℤ, pos}
use Rattle.std.specs.Int.Signed.{mag}

-- every number of the list is an i32
abbrev pub I32s : List ℤ → Type 0
I32s zs = (i : ℕ) → i < length zs → mag (get_or zs i (pos 0)) < 2 ^ 31
