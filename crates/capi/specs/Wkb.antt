-- How reading well-known binary is told.
use Rattle.std.specs.Prelude.{Ok, Err, ℕ, ◌+◌, List, ℤ}
use Rattle.wkb_shape.specs.declared.WkbRefusal.{WkbRefusal}
use Rattle.wkb_shape.specs.Refusals.{wkb_number, wkb_place}
use Rattle.wkb_read.specs.Read.{ReadWkb}
use Rattle.wkb_read.specs.Read.{Outcome}
use Rattle.capi.specs.Told.{Told}

-- 100 and 02's number, or 01's; the place
abbrev pub wkb_refusal_told : WkbRefusal → Told
wkb_refusal_told why = (100 + wkb_number why, wkb_place why)

-- 0 and how many rings there are
abbrev pub read_told : ReadWkb → Told
read_told (Ok (rings, numbers)) = (0, rings)
read_told (Err why) = wkb_refusal_told why

-- how many numbers there are, 0 with a refusal
abbrev pub numbers_told : ReadWkb → ℕ
numbers_told (Ok (rings, numbers)) = numbers
numbers_told (Err why) = 0

-- with the content of both rooms
abbrev pub wkb_told : Outcome → Told × ℕ × List ℕ × List ℤ
wkb_told (answer, sizes, coords) = (read_told answer, numbers_told answer, sizes, coords)
