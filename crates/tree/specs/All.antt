-- What holds of each number of a list.
use Rattle.std.specs.Prelude.{ℕ, List, [], ◌∷◌}

-- P holds of each
unfoldable pub All : (ℕ → Type 0) → List ℕ → Type 0
All P [] = Unit
All P (x ∷ xs) = P x × All P xs
