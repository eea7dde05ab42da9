-- How a run is shared out without more room. A segment number is below 4,096, and a number of the room has 32 bits. So its lower half holds the
-- segment that arrived there, marked with its class, while the upper half takes the segment that is to stand there.
use Rattle.std.specs.Prelude.{Option, Some, None, ℕ, zero, suc, ◌+◌, ◌*◌, ◌/◌, ◌%◌, ◌≡◌, List, [], ◌∷◌, ◌++◌, map, length, eqb, Float}
use Rattle.boxes.specs.declared.Rect.{Rect}
use Rattle.room.specs.Numbers.{cons_if}
use Rattle.room.specs.Room.{write}
use Rattle.tree.specs.Tree.{choice}
use Rattle.tree_part.specs.declared.Shares.{Shares}

-- the classes in the order of their places: 0 stays, q + 1 goes to quadrant q
abbrev pub class_of_of : Option ℕ → ℕ
class_of_of None = 0
class_of_of (Some zero) = 1
class_of_of (Some (suc zero)) = 2
class_of_of (Some (suc (suc zero))) = 3
class_of_of (Some (suc (suc (suc q)))) = 4

-- segment i, marked
unfoldable pub marked : (ℕ → Float) → Rect → ℕ → ℕ
marked ring box i = i + 4096 * class_of_of (choice ring box i)

abbrev pub lower : ℕ → ℕ
lower x = x % 65536

abbrev pub upper : ℕ → ℕ
upper x = x / 65536

-- of marked segments, those of a class, without their mark
unfoldable pub of_class : ℕ → List ℕ → List ℕ
of_class k [] = []
of_class k (x ∷ xs) = cons_if (eqb (x / 4096) k) (x % 4096) (of_class k xs)

-- What one class that is lifted leaves: its segments stand in the upper halves from `at` up to `past`, and the lower halves stay.
pub record Lifted (k at : ℕ) (before after : List ℕ) (past : ℕ) : Type 0 where
  pub place : past ≡ at + length (of_class k (map lower before))
  pub low : map lower after ≡ map lower before
  pub high : map upper after ≡ write (map upper before) at (of_class k (map lower before))

-- one class behind the other
unfoldable pub classes : List ℕ → List ℕ
classes xs = of_class 0 xs ++ (of_class 1 xs ++ (of_class 2 xs ++ (of_class 3 xs ++ of_class 4 xs)))

unfoldable pub class_counts : List ℕ → Shares
class_counts xs =
    record {
      own = length (of_class 0 xs);
      nw = length (of_class 1 xs);
      ne = length (of_class 2 xs);
      sw = length (of_class 3 xs);
      se = length (of_class 4 xs);
    }
