-- What making the record answers, and what it leaves in the room lent for it.
use Rattle.std.specs.Prelude.{Result, Ok, Err, ℕ, ◌*◌, List, cond, leb, length, replicate, ℤ, pos, Float}
use Rattle.answers.specs.declared.Refusal.{Refusal}
use Rattle.answers.specs.declared.Refusal.TheVariants.{NoRoom}
use Rattle.room.specs.Room.{padded}
use Rattle.rings.specs.Checks.{Checked}
use Rattle.outline_check.specs.Outline.{rings}
use Rattle.outline_check.specs.Rules.{outline_checked}
use Rattle.outline_record.specs.Record.{boxes_of}

-- what making a record answers: how many rings it holds, or a refusal
abbrev pub Made : Type 0
Made = Result ℕ Refusal

-- the answer, and the room
abbrev pub Outcome : Type 0
Outcome = Made × List ℤ

-- "After success, output past the used part is zero": room for n numbers of which xs is the used part
abbrev pub pad_z : ℕ → List ℤ → List ℤ
pad_z n xs = padded (pos 0) n xs

-- "Room is short exactly when .. what a later call writes .. outnumber what was lent": 8, which fills all of it with zeros
unfoldable pub recorded : List ℕ → List ℤ → List ℤ → Outcome
recorded sizes coords boxes =
    cond (leb (4 * rings sizes) (length boxes))
    (Ok (rings sizes), pad_z (length boxes) (boxes_of sizes coords))
    (Err NoRoom, replicate (length boxes) (pos 0))

-- "Refusals 1 to 7 touch no lent room"
abbrev pub when_passed : Checked → List ℤ → Outcome → Outcome
when_passed (Ok _) boxes later = later
when_passed (Err why) boxes later = (Err why, boxes)

unfoldable pub boxes_made : Float → List ℕ → List ℤ → List ℤ → Outcome
boxes_made scale sizes coords boxes = when_passed (outline_checked scale sizes coords) boxes (recorded sizes coords boxes)
