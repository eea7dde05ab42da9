-- Laws of sums of whole numbers. Assumes nothing.
use Prim.Native.Nat.{ℕ, zero, suc, ◌+◌, ◌<◌}
use mathlib.Core.Path.{◌≡◌, refl, sym, ap, ap₂, ◌∙◌}
use native.Mathlib.Omega.{arith}
use lib.IntN.{ℤ, pos, ◌+ℤ◌, ◌-ℤ◌, ◌*ℤ◌, +ℤ_idl, +ℤ_idr, +ℤ_assoc, *ℤ-zero}
use Rattle.rings.proofs.Whole.{split, diff_pos, diff_add, diff_sub, diff_mul, diff_same}
use Rattle.turn.specs.Turn.{sum_to}

-- sums whose terms are the same, as far as they are summed
pub sum_below : (f g : ℕ → ℤ) (n : ℕ) → ((i : ℕ) → i < n → f i ≡ g i) → sum_to f n ≡ sum_to g n
unfolding sum_to
sum_below f g zero e = refl
sum_below f g (suc n) e = ap₂ ◌+ℤ◌ (sum_below f g n (λ i h. e i (omega arith))) (e n (omega arith))

pub sum_same : (f g : ℕ → ℤ) (n : ℕ) → ((i : ℕ) → f i ≡ g i) → sum_to f n ≡ sum_to g n
sum_same f g n e = sum_below f g n (λ i h. e i)

regroup : (a b c d : ℤ) → (a +ℤ b) -ℤ (c +ℤ d) ≡ (a -ℤ c) +ℤ (b -ℤ d)
regroup a b c d = rw (split a, split b, split c, split d) (simp (diff_add, diff_sub) (diff_same _ _ _ _ (omega arith)))

pub sum_sub : (f g : ℕ → ℤ) (n : ℕ) → sum_to f n -ℤ sum_to g n ≡ sum_to (λ i. f i -ℤ g i) n
unfolding sum_to
sum_sub f g zero = refl
sum_sub f g (suc n) = regroup (sum_to f n) (f n) (sum_to g n) (g n) ∙ ap (λ (z : ℤ). z +ℤ (f n -ℤ g n)) (sum_sub f g n)

exchange : (a b c d : ℤ) → (a +ℤ b) +ℤ (c +ℤ d) ≡ (a +ℤ c) +ℤ (b +ℤ d)
exchange a b c d = rw (split a, split b, split c, split d) (simp (diff_add) (diff_same _ _ _ _ (omega arith)))

pub sum_add : (f g : ℕ → ℤ) (n : ℕ) → sum_to (λ i. f i +ℤ g i) n ≡ sum_to f n +ℤ sum_to g n
unfolding sum_to
sum_add f g zero = refl
sum_add f g (suc n) = ap (λ (z : ℤ). z +ℤ (f n +ℤ g n)) (sum_add f g n) ∙ exchange (sum_to f n) (sum_to g n) (f n) (g n)

between : (a b c : ℤ) → (a -ℤ b) +ℤ (b -ℤ c) ≡ a -ℤ c
between a b c = rw (split a, split b, split c) (simp (diff_add, diff_sub) (diff_same _ _ _ _ (omega arith)))

pub cancel : (a : ℤ) → a -ℤ a ≡ pos 0
cancel a = rw (split a) (simp diff_sub (diff_pos _ _ 0 (omega arith)))

-- the steps of a row of numbers add up to its first less its last
pub sum_steps : (h : ℕ → ℤ) (n : ℕ) → sum_to (λ i. h i -ℤ h (suc i)) n ≡ h 0 -ℤ h n
unfolding sum_to
sum_steps h zero = sym (cancel (h 0))
sum_steps h (suc n) = ap (λ (z : ℤ). z +ℤ (h n -ℤ h (suc n))) (sum_steps h n) ∙ between (h 0) (h n) (h (suc n))

-- a sum in two parts: the first m terms, and the n behind them
pub sum_parts : (f : ℕ → ℤ) (m n : ℕ) → sum_to f (m + n) ≡ sum_to f m +ℤ sum_to (λ i. f (m + i)) n
unfolding sum_to
sum_parts f m zero = let e : m + 0 ≡ m = omega arith in rw e (sym (+ℤ_idr (sum_to f m)))
sum_parts f m (suc n) =
    let e : m + suc n ≡ suc (m + n) = omega arith in
    rw e (ap (λ (z : ℤ). z +ℤ f (m + n)) (sum_parts f m n) ∙ +ℤ_assoc (sum_to f m) (sum_to (λ i. f (m + i)) n) (f (m + n)))

-- the first term, and those behind it
pub sum_first : (f : ℕ → ℤ) (n : ℕ) → sum_to f (suc n) ≡ f 0 +ℤ sum_to (λ i. f (suc i)) n
unfolding sum_to
sum_first f zero = +ℤ_idl (f 0) ∙ sym (+ℤ_idr (f 0))
sum_first f (suc n) = ap (λ (z : ℤ). z +ℤ f (suc n)) (sum_first f n) ∙ +ℤ_assoc (f 0) (sum_to (λ i. f (suc i)) n) (f (suc n))

-- a factor stands before the sum
distribute : (k a b : ℤ) → k *ℤ (a +ℤ b) ≡ k *ℤ a +ℤ k *ℤ b
distribute k a b = rw (split k, split a, split b) (simp (diff_add, diff_mul) (diff_same _ _ _ _ (omega arith)))

pub sum_times : (k : ℤ) (f : ℕ → ℤ) (n : ℕ) → k *ℤ sum_to f n ≡ sum_to (λ i. k *ℤ f i) n
unfolding sum_to
sum_times k f zero = *ℤ-zero k
sum_times k f (suc n) = distribute k (sum_to f n) (f n) ∙ ap (λ (z : ℤ). z +ℤ k *ℤ f n) (sum_times k f n)
