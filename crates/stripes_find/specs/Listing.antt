-- 01, "What a call says when it says no": what a listing by stripes answers, and what it leaves in the room lent for the numbers.
use Rattle.std.specs.Prelude.{Ok, Err}
use Rattle.std.specs.Prelude.{cond, List, ℕ, length, replicate, ℤ, leb, Float}
use Rattle.std.specs.Float.Ieee.Scale.{finite}
use Rattle.answers.specs.declared.Refusal.{Refusal}
use Rattle.answers.specs.declared.Refusal.TheVariants.{BadHeight, NoRoom, Damaged}
use Rattle.room.specs.Room.{pad}
use Rattle.rings.specs.Checks.{Checked}
use Rattle.rings.specs.Ring.{wide, segments}
use Rattle.rings.specs.Checks.{ring_checked}
use Rattle.rings.specs.Listing.{Listed}
use Rattle.stripes_find.specs.Search.{Reading, Ending, complete, damaged_at, searched}

-- the answer and the room
abbrev pub Outcome : Type 0
Outcome = Listed × List ℕ

-- 8 and 9 "fill all output .. with zeros"
abbrev pub refused : Refusal → List ℕ → Outcome
refused why out = (Err why, replicate (length out) 0)

-- "After success, output past the used part is zero"
abbrev pub ended : List ℕ → Ending → List ℕ → Outcome
ended found complete out = (Ok (length found), pad (length out) found)
ended found (damaged_at place) out = refused (Damaged place) out

-- "8 and 9 are met in working order, whichever comes first": the numbers found stand before the damage
unfoldable pub poured : Reading → List ℕ → Outcome
poured r out = cond (leb (length r.found) (length out)) (ended r.found r.ending out) (refused NoRoom out)

-- 1 to 4, then 7, touch no room
abbrev pub when_sound : Checked → List ℕ → Outcome → Outcome
when_sound (Ok _) out later = later
when_sound (Err why) out later = (Err why, out)

-- listing by stripes. What the checks found is given, since they look at the stored numbers and what follows does not
unfoldable pub stripes_listed_by : Checked → (ℕ → Float) → ℕ → Float → Float → List ℕ → List ℕ → Float → List ℕ → Outcome
stripes_listed_by checked ring points least height stripes list y out =
    when_sound checked out
    (cond (finite y) (poured (searched ring (segments points) least height stripes list y) out) (Err BadHeight, out))

-- of a stored ring
abbrev pub stripes_listed : List ℤ → ℕ → Float → Float → List ℕ → List ℕ → Float → List ℕ → Outcome
stripes_listed ring points least height stripes list y out = stripes_listed_by (ring_checked ring points) (wide ring) points least height stripes list y out
