-- Laws of how often a number stands in a list.
use Prim.Native.Nat.{ℕ, zero, suc, ◌+◌, ◌-◌, ◌*◌, ◌≤◌, ◌<◌}
use mathlib.Core.Path.{◌≡◌, refl, ap, ◌∙◌}
use mathlib.Core.List.{List, [], ◌∷◌, ◌++◌}
use mathlib.Core.Bool.{Bool, true, false}
use mathlib.Core.Logic.{⊎_elim}
use native.Mathlib.Omega.{arith}
use borrow.Author.Tests.{eq-eqb, ne_eqb}
use lib.Dec.{eqb}
use Rattle.room.specs.Numbers.{cons_if, keep, up_to, bit, count}
use Rattle.room.proofs.Cases.{lt_or}

pub count_append : (k : ℕ) (xs ys : List ℕ) → count k (xs ++ ys) ≡ count k xs + count k ys
unfolding count
count_append k [] ys = omega arith
count_append k (x ∷ xs) ys = omega (arith, count_append k xs ys)

pub count_cons_if : (k i : ℕ) (b : Bool) (xs : List ℕ) → count k (cons_if b i xs) ≡ bit b * bit (eqb i k) + count k xs
unfolding count
count_cons_if k i true xs = omega arith
count_cons_if k i false xs = omega arith

-- a number outside the range does not stand in the list
count_below : (t : ℕ → Bool) (k n i : ℕ) → k < i → count k (keep t n i) ≡ 0
unfolding count keep
count_below t k zero i h = refl
count_below t k (suc n) i h =
    count_cons_if k i (t i) (keep t n (i + 1))
    ∙ rw (ne_eqb i k (λ e. omega arith)) (omega (arith, count_below t k n (i + 1) (omega arith)))

count_above : (t : ℕ → Bool) (k n i : ℕ) → i + n ≤ k → count k (keep t n i) ≡ 0
unfolding count keep
count_above t k zero i h = refl
count_above t k (suc n) i h =
    count_cons_if k i (t i) (keep t n (i + 1))
    ∙ rw (ne_eqb i k (λ e. omega arith)) (omega (arith, count_above t k n (i + 1) (omega arith)))

count_keep : (t : ℕ → Bool) (k n i : ℕ) → i ≤ k → k < i + n → count k (keep t n i) ≡ bit (t k)
unfolding keep
count_keep t k zero i h l = absurd (omega arith)
count_keep t k (suc n) i h l =
    count_cons_if k i (t i) (keep t n (i + 1))
    ∙ ⊎_elim
    (λ (lt : i < k). rw (ne_eqb i k (λ e. omega arith)) (omega (arith, count_keep t k n (i + 1) (omega arith) (omega arith))))
    (λ (ge : k ≤ i). let e : i ≡ k = omega arith in
    rw (eq-eqb i k e) (omega (arith, count_below t k n (i + 1) (omega arith), ap (λ (j : ℕ). bit (t j)) e)))
    (lt_or i k)

-- a list by rising number holds each number at which the test holds once, and no other
pub count_up_to : (t : ℕ → Bool) (k n i : ℕ) → i ≤ k → k < n → count k (up_to t n i) ≡ bit (t k)
unfolding up_to
count_up_to t k n i h l = count_keep t k (n - i) i h (omega arith)

pub count_up_to_below : (t : ℕ → Bool) (k n i : ℕ) → k < i → count k (up_to t n i) ≡ 0
unfolding up_to
count_up_to_below t k n i h = count_below t k (n - i) i h

pub count_up_to_past : (t : ℕ → Bool) (k n i : ℕ) → n ≤ k → count k (up_to t n i) ≡ 0
unfolding up_to
count_up_to_past t k n i h =
    ⊎_elim (λ (lt : k < i). count_below t k (n - i) i lt) (λ (ge : i ≤ k). count_above t k (n - i) i (omega arith)) (lt_or k i)
