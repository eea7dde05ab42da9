-- A listing call: what it answers, and what it leaves in the room lent for the numbers.
use Rattle.std.specs.Prelude.{Result, Ok, Err, ℕ, cond, List, leb, length, ℤ, Float}
use Rattle.std.specs.Float.Ieee.Scale.{finite}
use Rattle.answers.specs.declared.Refusal.{Refusal}
use Rattle.answers.specs.declared.Refusal.TheVariants.{BadHeight, NoRoom}
use Rattle.room.specs.Room.{room_of}
use Rattle.rings.specs.Ring.{wide, meeting}
use Rattle.rings.specs.Checks.{Checked, ring_checked}

-- what a listing call answers: how many numbers it listed, or a refusal
abbrev pub Listed : Type 0
Listed = Result ℕ Refusal

-- the answer, and the room
abbrev pub Outcome : Type 0
Outcome = Listed × List ℕ

-- "Room is short exactly when the .. list numbers .. outnumber what was lent": 8
unfoldable pub listed_in : List ℕ → List ℕ → Outcome
listed_in numbers out = (cond (leb (length numbers) (length out)) (Ok (length numbers)) (Err NoRoom), room_of (length out) numbers)

-- "Refusals 1 to 7 touch no lent room"
abbrev pub untouched : Refusal → List ℕ → Outcome
untouched why out = (Err why, out)

abbrev pub list_sound : Checked → List ℕ → Outcome → Outcome
list_sound (Ok _) out later = later
list_sound (Err why) out later = untouched why out

-- listing by scan: the checks on the ring, then 7, then the segments whose height range holds y. What the checks found is given, since they look at the
-- stored numbers and what follows does not
unfoldable pub scanned_by : Checked → (ℕ → Float) → ℕ → Float → List ℕ → Outcome
scanned_by checked ring points y out =
    list_sound checked out
    (cond (finite y) (listed_in (meeting ring points y) out) (untouched BadHeight out))

-- of a stored ring: rules 1 to 4
abbrev pub scanned : List ℤ → ℕ → Float → List ℕ → Outcome
scanned ring points y out = scanned_by (ring_checked ring points) (wide ring) points y out
