-- 01, "The packed tree" and "What a call says when it says no": what building answers, and what it leaves in the room lent for the bytes and in the
-- work room.
use Rattle.std.specs.Prelude.{Result, Ok, Err, Option, Some, None, Bool, cond, ◌&&◌, List, ℕ, length, replicate, ℤ, leb, ltb, Float}
use Rattle.answers.specs.declared.Refusal.{Refusal}
use Rattle.answers.specs.declared.Refusal.TheVariants.{NoRoom}
use Rattle.room.specs.Room.{pad}
use Rattle.rings.specs.Ring.{wide, segments}
use Rattle.rings.specs.Checks.{Checked, ring_checked}
use Rattle.tree.specs.Tree.{tree_of, packed, work_numbers}

-- how many bytes the tree takes; no tree, under the threshold; or a refusal
abbrev pub TreeBuilt : Type 0
TreeBuilt = Result (Option ℕ) Refusal

-- the answer, the bytes and the work room
abbrev pub Outcome : Type 0
Outcome = TreeBuilt × List ℕ × List ℕ

-- an answer that leaves all lent room zero
abbrev pub zeroed : TreeBuilt → List ℕ → List ℕ → Outcome
zeroed answer bytes work = (answer, replicate (length bytes) 0, replicate (length work) 0)

-- the bytes of the tree of a ring
abbrev pub tree_bytes : (ℕ → Float) → ℕ → List ℕ
tree_bytes ring points = packed (tree_of ring points)

-- "Room is short exactly when the packed bytes, .. work numbers .. outnumber what was lent"
abbrev pub roomy : (ℕ → Float) → ℕ → List ℕ → List ℕ → Bool
roomy ring points bytes work = leb (work_numbers ring points) (length work) && leb (length (tree_bytes ring points)) (length bytes)

-- "After success, output past the used part is zero and work room is all zero"; 8 fills "all output and work room with zeros"
unfoldable pub packed_in : (ℕ → Float) → ℕ → List ℕ → List ℕ → Outcome
packed_in ring points bytes work =
    cond (roomy ring points bytes work)
    (Ok (Some (length (tree_bytes ring points))), pad (length bytes) (tree_bytes ring points), replicate (length work) 0)
    (zeroed (Err NoRoom) bytes work)

-- "A ring under the threshold gets no index and says so."
unfoldable pub from_threshold : (ℕ → Float) → ℕ → ℕ → List ℕ → List ℕ → Outcome
from_threshold ring points threshold bytes work = cond (ltb (segments points) threshold) (zeroed (Ok None) bytes work) (packed_in ring points bytes work)

-- checks 1 to 4 come first, and touch no room
abbrev pub when_sound : Checked → List ℕ → List ℕ → Outcome → Outcome
when_sound (Ok _) bytes work later = later
when_sound (Err why) bytes work later = (Err why, bytes, work)

-- what the checks found is given, since they look at the stored numbers and what follows does not
unfoldable pub tree_built_by : Checked → (ℕ → Float) → ℕ → ℕ → List ℕ → List ℕ → Outcome
tree_built_by checked ring points threshold bytes work = when_sound checked bytes work (from_threshold ring points threshold bytes work)

-- of a stored ring
abbrev pub tree_built : List ℤ → ℕ → ℕ → List ℕ → List ℕ → Outcome
tree_built ring points threshold bytes work = tree_built_by (ring_checked ring points) (wide ring) points threshold bytes work
