-- 01, "What a call says when it says no": the number and the place of each refusal.
use Rattle.std.specs.Prelude.{ℕ, Bool, true, false}
use Rattle.answers.specs.declared.Refusal.{Refusal}
use Rattle.answers.specs.declared.Refusal.TheVariants.{TooFew, TooMany, SizesDiffer, NotClosed, BadScale, BadHeight, NoRoom, Damaged, Loose}

-- the table's first column
abbrev pub number_of : Refusal → ℕ
number_of (TooFew ring) = 1
number_of (TooMany ring) = 2
number_of SizesDiffer = 3
number_of (NotClosed ring) = 4
number_of BadScale = 5
number_of BadHeight = 7
number_of NoRoom = 8
number_of (Damaged at) = 9
number_of (Loose at) = 15

-- The table's last column. What a case carries is a ring's number for 1 and 4, a ring's number or 64 for 2, and for 9 what 01 gives under "Stripes" and
-- "The packed tree": 0, a position in the list or its length, or a byte. For 15 (CR 6) it is the varint's first byte.
abbrev pub place_of : Refusal → ℕ
place_of (TooFew ring) = ring
place_of (TooMany ring) = ring
place_of SizesDiffer = 0
place_of (NotClosed ring) = ring
place_of BadScale = 0
place_of BadHeight = 0
place_of NoRoom = 0
place_of (Damaged at) = at
place_of (Loose at) = at

-- "Refusals 1 to 7 touch no lent room .. 8 and 9, fill all output and work room with zeros"; so does one that "is met while a list or a
-- tree is being read", which 15 always is (CR 6)
abbrev pub zeroes_rooms : Refusal → Bool
zeroes_rooms (TooFew ring) = false
zeroes_rooms (TooMany ring) = false
zeroes_rooms SizesDiffer = false
zeroes_rooms (NotClosed ring) = false
zeroes_rooms BadScale = false
zeroes_rooms BadHeight = false
zeroes_rooms NoRoom = true
zeroes_rooms (Damaged at) = true
zeroes_rooms (Loose at) = true
