-- Lists of numbers: those at which a test holds, by rising number, and how often a number stands in a list.
use Rattle.std.specs.Prelude.{ℕ, zero, suc, ◌+◌, ◌-◌, List, [], ◌∷◌, Bool, true, false, eqb}

abbrev pub cons_if : Bool → ℕ → List ℕ → List ℕ
cons_if true x xs = x ∷ xs
cons_if false x xs = xs

-- of the n numbers i, i + 1, .. those at which the test holds
unfoldable pub keep : (ℕ → Bool) → ℕ → ℕ → List ℕ
keep t zero i = []
keep t (suc n) i = cons_if (t i) i (keep t n (i + 1))

-- the numbers from i up to n, n left out, at which the test holds
unfoldable pub up_to : (ℕ → Bool) → ℕ → ℕ → List ℕ
up_to t n i = keep t (n - i) i

abbrev pub bit : Bool → ℕ
bit true = 1
bit false = 0

-- how often k stands in a list: lists in different orders are compared by it
unfoldable pub count : ℕ → List ℕ → ℕ
count k [] = 0
count k (x ∷ xs) = bit (eqb x k) + count k xs
