-- 01, "Asking", the ring test: for each listed segment, "on" ends with the edge rule; "inside" flips the answer. Start at no.
use Rattle.std.specs.Prelude.{ℕ, List, [], ◌∷◌, Bool, false, not, cond}

-- what the numbers of a list make of the answer so far; which segments p is on, and which it is inside of, are given by number
unfoldable pub test_from : (ℕ → Bool) → (ℕ → Bool) → Bool → Bool → List ℕ → Bool
test_from on inside edge answer [] = answer
test_from on inside edge answer (i ∷ is) = cond (on i) edge (test_from on inside edge (cond (inside i) (not answer) answer) is)

abbrev pub ring_test : (ℕ → Bool) → (ℕ → Bool) → Bool → List ℕ → Bool
ring_test on inside edge listed = test_from on inside edge false listed
