-- The table of an outline's indexes: ten numbers for each ring, and which number is which.
use Rattle.std.specs.Prelude.{ℕ, ◌+◌, ◌*◌, List, get_or}

-- the places in a row
abbrev pub segments_place : ℕ
segments_place = 0

-- 1 where an index was asked for and the ring is under the threshold
abbrev pub under_place : ℕ
under_place = 1

-- 1 for stripes, 2 for a tree, 3 for both
abbrev pub kinds_place : ℕ
kinds_place = 2

-- where the ring's stripes start, and how many they are, two numbers each
abbrev pub stripes_start : ℕ
stripes_start = 3

abbrev pub stripes_place : ℕ
stripes_place = 4

-- where its list starts, and how long it is
abbrev pub list_start : ℕ
list_start = 5

abbrev pub entries_place : ℕ
entries_place = 6

-- entries of its fullest stripe
abbrev pub fullest_place : ℕ
fullest_place = 7

-- where its bytes start, and how many they are
abbrev pub bytes_start : ℕ
bytes_start = 8

abbrev pub bytes_place : ℕ
bytes_place = 9

-- A number of ring k's ten in the table. One that is missing counts as 0, so a ring without a row has no index.
abbrev pub number : List ℕ → ℕ → ℕ → ℕ
number table k i = get_or table (10 * k + i) 0
