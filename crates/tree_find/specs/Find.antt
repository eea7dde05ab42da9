-- What the calls on a tree answer, and what they leave in the lent room.
use Rattle.std.specs.Prelude.{Ok, Err, false, ℕ, List, Bool, cond, ◌&&◌, leb, length, replicate, ℤ, Float}
use Rattle.std.specs.Float.Ieee.Scale.{finite}
use Rattle.answers.specs.declared.Refusal.{Refusal}
use Rattle.answers.specs.declared.Refusal.TheVariants.{NoRoom, BadHeight}
use Rattle.answers.specs.Answers.{Answer}
use Rattle.answers.specs.Answers.{said}
use Rattle.boxes.specs.declared.Point.{Point}
use Rattle.rings.specs.Checks.{Checked}
use Rattle.rings.specs.Ring.{wide, segments}
use Rattle.rings.specs.Checks.{ring_checked, when_sound}
use Rattle.cast_test.specs.Test.{test_of}
use Rattle.room.specs.Room.{pad}
use Rattle.tree.specs.Tree.{ring_box}
use Rattle.tree.specs.Search.{Found, End, ends, fails, searched}
use Rattle.rings.specs.Listing.{Listed}

-- ---- a list in lent room

-- the answer and the room
abbrev pub Outcome : Type 0
Outcome = Listed × List ℕ

-- 8, 9 and 15 (CR 6) "fill all output .. with zeros"; the room is for n numbers
abbrev pub refused : Refusal → ℕ → Outcome
refused why n = (Err why, replicate n 0)

-- "After success, output past the used part is zero"
abbrev pub ended : List ℕ → End → ℕ → Outcome
ended found (ends p) n = (Ok (length found), pad n found)
ended found (fails why) n = refused why n

-- "8, 9 and 15 (CR 6) are met in working order, whichever comes first": the numbers found stand before the damage
unfoldable pub answered : ℕ → Found → Outcome
answered n found = cond (leb (length found.0) n) (ended found.0 found.1 n) (refused NoRoom n)

-- 1 to 4, then 7, touch no room
abbrev pub list_when_sound : Checked → List ℕ → Outcome → Outcome
list_when_sound (Ok _) room later = later
list_when_sound (Err why) room later = (Err why, room)

-- listing by the tree. What the checks found is given, since they look at the stored numbers and what follows does not
unfoldable pub tree_listed_by : Checked → (ℕ → Float) → ℕ → List ℕ → Float → List ℕ → Outcome
tree_listed_by checked ring points bytes y room =
    list_when_sound checked room
    (cond (finite y) (answered (length room) (searched bytes ring (segments points) y (ring_box ring points))) (Err BadHeight, room))

-- of a stored ring
abbrev pub tree_listed : List ℤ → ℕ → List ℕ → Float → List ℕ → Outcome
tree_listed ring points bytes y room = tree_listed_by (ring_checked ring points) (wide ring) points bytes y room

-- ---- the ring test
-- "It answers as if the list were complete before the first segment is tested, so damage met anywhere in listing refuses"
unfoldable pub verdict : (ℕ → Float) → Point → Bool → Found → Answer
verdict ring p edge (xs, ends q) = said (test_of ring p edge xs)
verdict ring p edge (xs, fails why) = Err why

-- "a query that is NaN or infinite .. is outside"
unfoldable pub tree_tested_by : Checked → (ℕ → Float) → ℕ → List ℕ → Point → Bool → Answer
tree_tested_by checked ring points bytes p edge =
    when_sound checked
    (cond (finite p.x && finite p.y) (verdict ring p edge (searched bytes ring (segments points) p.y (ring_box ring points))) (Ok false))

-- of a stored ring
abbrev pub tree_tested : List ℤ → ℕ → List ℕ → Point → Bool → Answer
tree_tested ring points bytes p edge = tree_tested_by (ring_checked ring points) (wide ring) points bytes p edge
