-- A run of elements written where it fits, and several runs one after the other: for the functions that write a part
-- of what a public one writes.
use Rattle.std.specs.Prelude.{Option, Some, None}
use Rattle.std.specs.Prelude.{ℕ, ◌+◌, List, [], ◌∷◌, ◌++◌, cond, length, leb}
use Rattle.room.specs.Room.{write}

-- how a write came out, and the room after it
abbrev pub Wrote : Type 0 → Type 0
Wrote A = Option ℕ × List A

module _ {A : Type 0} where
  -- vs at a place where it fits; where it does not, the room stays
  unfoldable pub put_of : List A → ℕ → List A → Wrote A
  put_of vs at o = cond (leb (at + length vs) (length o)) (Some (at + length vs), write o at vs) (None, o)

  -- go on at the place past what was written
  unfoldable pub then : Wrote A → (ℕ → List A → Wrote A) → Wrote A
  then (Some p, o) f = f p o
  then (None, o) f = (None, o)

  -- runs one after the other, up to the first that does not fit
  unfoldable pub pour : List (List A) → ℕ → List A → Wrote A
  pour [] at o = (Some at, o)
  pour (g ∷ gs) at o = then (put_of g at o) (λ p o'. pour gs p o')

  -- the runs as one
  unfoldable pub flat : List (List A) → List A
  flat [] = []
  flat (g ∷ gs) = g ++ flat gs

  -- each element as a run of its own
  unfoldable pub ones : List A → List (List A)
  ones [] = []
  ones (x ∷ xs) = (x ∷ []) ∷ ones xs
