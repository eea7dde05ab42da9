-- Laws of the numbers at which a test holds, by rising number.
use Prim.Native.Nat.{ℕ, zero, suc, ◌+◌, ◌-◌, ◌≤◌, ◌<◌}
use mathlib.Core.Path.{◌≡◌, refl, ap, ap₂, ◌∙◌}
use mathlib.Core.List.{List, [], ◌∷◌, ◌++◌}
use mathlib.Core.Bool.{Bool, true, false}
use native.Mathlib.Omega.{arith}
use lib.ListN.{length}
use Rattle.room.specs.Numbers.{cons_if, keep, up_to}

-- a loop over the numbers from i up to n, one turn at a time
module _ (t : ℕ → Bool) (n i : ℕ) where
  pub up_to_done : n ≤ i → up_to t n i ≡ []
  unfolding up_to keep
  up_to_done h = let e : n - i ≡ 0 = omega arith in rw e

  pub up_to_more : i < n → up_to t n i ≡ cons_if (t i) i (up_to t n (i + 1))
  unfolding up_to keep
  up_to_more h = let e : n - i ≡ suc (n - (i + 1)) = omega arith in rw e

  pub up_to_yes : i < n → t i ≡ true → up_to t n i ≡ i ∷ up_to t n (i + 1)
  up_to_yes h y = up_to_more h ∙ ap (λ (b : Bool). cons_if b i (up_to t n (i + 1))) y

  pub up_to_no : i < n → t i ≡ false → up_to t n i ≡ up_to t n (i + 1)
  up_to_no h y = up_to_more h ∙ ap (λ (b : Bool). cons_if b i (up_to t n (i + 1))) y

-- tests that agree keep the same numbers
keep_ext : (t u : ℕ → Bool) (n i : ℕ) → ((k : ℕ) → i ≤ k → k < i + n → t k ≡ u k) → keep t n i ≡ keep u n i
unfolding keep
keep_ext t u zero i h = refl
keep_ext t u (suc n) i h =
    ap₂ (λ (b : Bool) (xs : List ℕ). cons_if b i xs) (h i (omega arith) (omega arith))
    (keep_ext t u n (i + 1) (λ k a b. h k (omega arith) (omega arith)))

pub up_to_ext : (t u : ℕ → Bool) (n i : ℕ) → ((k : ℕ) → i ≤ k → k < n → t k ≡ u k) → up_to t n i ≡ up_to u n i
unfolding up_to
up_to_ext t u n i h = keep_ext t u (n - i) i (λ k a b. h k a (omega arith))

-- none, where the test holds nowhere
keep_none : (t : ℕ → Bool) (n i : ℕ) → ((k : ℕ) → i ≤ k → k < i + n → t k ≡ false) → keep t n i ≡ []
unfolding keep
keep_none t zero i h = refl
keep_none t (suc n) i h =
    ap₂ (λ (b : Bool) (xs : List ℕ). cons_if b i xs) (h i (omega arith) (omega arith))
    (keep_none t n (i + 1) (λ k a b. h k (omega arith) (omega arith)))

pub up_to_none : (t : ℕ → Bool) (n i : ℕ) → ((k : ℕ) → i ≤ k → k < n → t k ≡ false) → up_to t n i ≡ []
unfolding up_to
up_to_none t n i h = keep_none t (n - i) i (λ k a b. h k a (omega arith))

-- the numbers up to m, and then those from m on
cons_if_append : (b : Bool) (x : ℕ) (xs ys : List ℕ) → cons_if b x (xs ++ ys) ≡ cons_if b x xs ++ ys
cons_if_append true x xs ys = refl
cons_if_append false x xs ys = refl

keep_split : (t : ℕ → Bool) (m n i : ℕ) → keep t (m + n) i ≡ keep t m i ++ keep t n (i + m)
unfolding keep
keep_split t zero n i = let a : 0 + n ≡ n = omega arith in let b : i + 0 ≡ i = omega arith in rw (a, b)
keep_split t (suc m) n i =
    let a : suc m + n ≡ suc (m + n) = omega arith in
    let b : i + suc m ≡ i + 1 + m = omega arith in
    rw (a, b)
    (ap (λ (xs : List ℕ). cons_if (t i) i xs) (keep_split t m n (i + 1))
    ∙ cons_if_append (t i) i (keep t m (i + 1)) (keep t n (i + 1 + m)))

pub up_to_split : (t : ℕ → Bool) (n m i : ℕ) → i ≤ m → m ≤ n → up_to t n i ≡ up_to t m i ++ up_to t n m
unfolding up_to
up_to_split t n m i a b =
    let e : n - i ≡ (m - i) + (n - m) = omega arith in
    let f : i + (m - i) ≡ m = omega arith in
    rw e (keep_split t (m - i) (n - m) i ∙ ap (λ (k : ℕ). keep t (m - i) i ++ keep t (n - m) k) f)

-- no more than there are numbers
cons_if_length : (b : Bool) (x : ℕ) (xs : List ℕ) → length (cons_if b x xs) ≤ suc (length xs)
cons_if_length true x xs = omega arith
cons_if_length false x xs = omega arith

keep_length : (t : ℕ → Bool) (n i : ℕ) → length (keep t n i) ≤ n
unfolding keep
keep_length t zero i = omega arith
keep_length t (suc n) i = omega (arith, cons_if_length (t i) i (keep t n (i + 1)), keep_length t n (i + 1))

pub up_to_length : (t : ℕ → Bool) (n i : ℕ) → length (up_to t n i) ≤ n - i
unfolding up_to
up_to_length t n i = keep_length t (n - i) i
