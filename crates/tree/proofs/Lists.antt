-- Lists of segment numbers: what holds of each, that they rise, and what is left of them by a test. Assumes nothing.
use Prim.Native.Nat.{ℕ, zero, suc, ◌+◌, ◌*◌, ◌≤◌, ◌<◌}
use mathlib.Core.Path.{◌≡◌, refl, ap, ap₂, ◌∙◌}
use mathlib.Core.List.{List, [], ◌∷◌, ◌++◌}
use mathlib.Core.Bool.{Bool, true, false}
use native.Mathlib.Omega.{arith}
use lib.Dec.{eqb}
use lib.ListN.{length}
use borrow.Author.Tests.{eqb-true}
use Rattle.room.specs.Numbers.{cons_if, keep, bit, count}
use Rattle.room.proofs.Count.{count_cons_if}
use Rattle.tree.specs.All.{All}
use Rattle.tree.specs.Tree.{those}

-- each is at least the one before it, the first at least `last`
unfoldable pub Rising : ℕ → List ℕ → Type 0
Rising last [] = Unit
Rising last (x ∷ xs) = (last ≤ x) × Rising x xs

module _ (P : ℕ → Type 0) where
  pub all_append : (xs ys : List ℕ) → All P xs → All P ys → All P (xs ++ ys)
  unfolding All
  all_append [] ys a b = b
  all_append (x ∷ xs) ys a b = (a.0, all_append xs ys a.1 b)

  all_cons_if : (b : Bool) (x : ℕ) (xs : List ℕ) → (b ≡ true → P x) → All P xs → All P (cons_if b x xs)
  unfolding All
  all_cons_if true x xs p a = (p refl, a)
  all_cons_if false x xs p a = a

  -- what holds of each number that passes the test
  pub all_those : (t : ℕ → Bool) (xs : List ℕ) → All (λ x. t x ≡ true → P x) xs → All P (those t xs)
  unfolding All those
  all_those t [] a = tt
  all_those t (x ∷ xs) a = all_cons_if (t x) x (those t xs) a.0 (all_those t xs a.1)

pub all_map : (P Q : ℕ → Type 0) (xs : List ℕ) → ((x : ℕ) → P x → Q x) → All P xs → All Q xs
unfolding All
all_map P Q [] f a = tt
all_map P Q (x ∷ xs) f a = (f x a.0, all_map P Q xs f a.1)

pub all_of : (P : ℕ → Type 0) (xs : List ℕ) → ((x : ℕ) → P x) → All P xs
unfolding All
all_of P [] f = tt
all_of P (x ∷ xs) f = (f x, all_of P xs f)

pub all_kept : (P : ℕ → Type 0) (t : ℕ → Bool) (xs : List ℕ) → All P xs → All P (those t xs)
all_kept P t xs a = all_those P t xs (all_map P (λ x. t x ≡ true → P x) xs (λ x p e. p) a)

pub rising_less : (m n : ℕ) (xs : List ℕ) → m ≤ n → Rising n xs → Rising m xs
unfolding Rising
rising_less m n [] h r = tt
rising_less m n (x ∷ xs) h r = (omega (arith, r.0), r.1)

rising_cons_if : (b : Bool) (m x : ℕ) (xs : List ℕ) → m ≤ x → Rising x xs → Rising m (cons_if b x xs)
unfolding Rising
rising_cons_if true m x xs h r = (h, r)
rising_cons_if false m x xs h r = rising_less m x xs h r

pub rising_those : (t : ℕ → Bool) (m : ℕ) (xs : List ℕ) → Rising m xs → Rising m (those t xs)
unfolding Rising those
rising_those t m [] r = tt
rising_those t m (x ∷ xs) r = rising_cons_if (t x) m x (those t xs) r.0 (rising_those t x xs r.1)

pub those_append : (t : ℕ → Bool) (xs ys : List ℕ) → those t (xs ++ ys) ≡ those t xs ++ those t ys
unfolding those
those_append t [] ys = refl
those_append t (x ∷ xs) ys = rw (those_append t xs ys) (out (t x) (those t xs))
  where
    out : (b : Bool) (zs : List ℕ) → cons_if b x (zs ++ those t ys) ≡ cons_if b x zs ++ those t ys
    out true zs = refl
    out false zs = refl

pub those_ext : (t u : ℕ → Bool) (xs : List ℕ) → ((x : ℕ) → t x ≡ u x) → those t xs ≡ those u xs
unfolding those
those_ext t u [] h = refl
those_ext t u (x ∷ xs) h = ap₂ (λ (b : Bool) (ys : List ℕ). cons_if b x ys) (h x) (those_ext t u xs h)

-- a list of which all pass
pub those_whole : (t : ℕ → Bool) (xs : List ℕ) → All (λ x. t x ≡ true) xs → those t xs ≡ xs
unfolding All those
those_whole t [] a = refl
those_whole t (x ∷ xs) a = rw a.0 (ap (λ (ys : List ℕ). x ∷ ys) (those_whole t xs a.1))

-- a list of which none passes
pub those_none : (t : ℕ → Bool) (xs : List ℕ) → All (λ x. t x ≡ false) xs → those t xs ≡ []
unfolding All those
those_none t [] a = refl
those_none t (x ∷ xs) a = rw a.0 (those_none t xs a.1)

pub those_length : (t : ℕ → Bool) (xs : List ℕ) → length (those t xs) ≤ length xs
unfolding those
those_length t [] = omega arith
those_length t (x ∷ xs) = go (t x) (those t xs) (those_length t xs)
  where
    go : (b : Bool) (ys : List ℕ) → length ys ≤ length xs → length (cons_if b x ys) ≤ suc (length xs)
    go true ys h = omega arith
    go false ys h = omega arith

-- how often a number is left by a test: as often as it was there, or never
pub count_those : (t : ℕ → Bool) (k : ℕ) (xs : List ℕ) → count k (those t xs) ≡ bit (t k) * count k xs
unfolding those count
count_those t k [] = omega arith
count_those t k (x ∷ xs) = count_cons_if k x (t x) (those t xs) ∙ rw (count_those t k xs) (same (eqb x k) refl)
  where
    same : (b : Bool) → eqb x k ≡ b → bit (t x) * bit b + bit (t k) * count k xs ≡ bit (t k) * (bit b + count k xs)
    same true e = let f : bit (t x) ≡ bit (t k) = ap (λ (j : ℕ). bit (t j)) (eqb-true x k e) in omega arith
    same false e = omega arith

-- the numbers up to n at which a test holds are those of all the numbers up to n
pub those_keep : (t : ℕ → Bool) (n i : ℕ) → those t (keep (λ k. true) n i) ≡ keep t n i
unfolding those keep
those_keep t zero i = refl
those_keep t (suc n) i = ap (λ (xs : List ℕ). cons_if (t i) i xs) (those_keep t n (i + 1))

pub all_keep : (t : ℕ → Bool) (n i : ℕ) → All (λ x. x < i + n) (keep t n i)
unfolding All keep
all_keep t zero i = tt
all_keep t (suc n) i =
    all_cons_if (λ x. x < i + suc n) (t i) i (keep t n (i + 1)) (λ e. omega arith)
    (all_map (λ x. x < i + 1 + n) (λ x. x < i + suc n) (keep t n (i + 1)) (λ x h. omega arith) (all_keep t n (i + 1)))

pub rising_keep : (t : ℕ → Bool) (n m i : ℕ) → m ≤ i → Rising m (keep t n i)
unfolding Rising keep
rising_keep t zero m i h = tt
rising_keep t (suc n) m i h = rising_cons_if (t i) m i (keep t n (i + 1)) h (rising_keep t n i (i + 1) (omega arith))
