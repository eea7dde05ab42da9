-- What the least and the greatest are: each is one of the numbers, and no number lies beyond it. Assumes nothing.
use Prim.Native.Nat.{ℕ, zero, suc, ◌≤◌, ◌<◌}
use mathlib.Core.Path.{◌≡◌, refl, sym, ap, ◌∙◌}
use mathlib.Core.Bool.{Bool, true, false}
use mathlib.Core.Logic.{◌⊎◌, inl, inr, ⊎_elim}
use native.Mathlib.Omega.{arith}
use native.Mathlib.Nat.{le_trans}
use lib.IntN.{ℤ}
use lib.Signed.{lt_z, le_z}
use borrow.Author.Tests.{ltb-true, ltb-false, leb-true, le-leb}
use Rattle.std.specs.Int.{int_min, int_max}
use Rattle.room.proofs.Cases.{eq_or}
use Rattle.rings.proofs.Whole.{diff, shifted, lt_shift, le_shift}
use Rattle.outline_record.specs.Record.{lesser_z, greater_z, least_z, greatest_z}

le_trans_z : (x y z : ℤ) → le_z x y ≡ true → le_z y z ≡ true → le_z x z ≡ true
le_trans_z =
    shifted (λ x y z. le_z x y ≡ true → le_z y z ≡ true → le_z x z ≡ true)
    (λ o a b c p q.
    le_shift o a c ∙ le-leb a c (le_trans (leb-true a b (sym (le_shift o a b) ∙ p)) (leb-true b c (sym (le_shift o b c) ∙ q))))

-- two numbers by a test on them: where the first is below, and where it is not
below : (x y z : ℤ) → lt_z x y ≡ true → le_z x y ≡ true
below = shifted (λ x y z. lt_z x y ≡ true → le_z x y ≡ true) (λ o a b c p. le_shift o a b ∙ le-leb a b (under a b (ltb-true a b (sym (lt_shift o a b) ∙ p))))
  where
    under : (a b : ℕ) → a < b → a ≤ b
    under a b h = omega arith

not_below : (x y z : ℤ) → lt_z x y ≡ false → le_z y x ≡ true
not_below = shifted (λ x y z. lt_z x y ≡ false → le_z y x ≡ true) (λ o a b c p. le_shift o b a ∙ le-leb b a (ltb-false a b (sym (lt_shift o a b) ∙ p)))

-- neither is below the other: they are one
pub level : (x y z : ℤ) → lt_z x y ≡ false → lt_z y x ≡ false → x ≡ y
level =
    shifted (λ x y z. lt_z x y ≡ false → lt_z y x ≡ false → x ≡ y)
    (λ o a b c p q. ap (λ (k : ℕ). diff k o) (both a b (ltb-false a b (sym (lt_shift o a b) ∙ p)) (ltb-false b a (sym (lt_shift o b a) ∙ q))))
  where
    both : (a b : ℕ) → b ≤ a → a ≤ b → a ≡ b
    both a b h k = omega arith

-- each below the other cannot be
crossed : (x y z : ℤ) → lt_z x y ≡ true → lt_z y x ≡ true → x ≡ y
crossed =
    shifted (λ x y z. lt_z x y ≡ true → lt_z y x ≡ true → x ≡ y)
    (λ o a b c p q. absurd (never a b (ltb-true a b (sym (lt_shift o a b) ∙ p)) (ltb-true b a (sym (lt_shift o b a) ∙ q))))
  where
    never : (a b : ℕ) → a < b → b < a → ⊥
    never a b h k = omega arith

-- std's lesser and greater of two
pub min_lesser : (x y : ℤ) → int_min x y ≡ lesser_z x y
min_lesser x y = go (lt_z x y) (lt_z y x) refl refl
  where
    go : (s t : Bool) → lt_z x y ≡ s → lt_z y x ≡ t → int_min x y ≡ lesser_z x y
    go true true p q = rw (p, q) (sym (crossed x y x p q))
    go true false p q = rw (p, q)
    go false true p q = rw (p, q)
    go false false p q = rw (p, q) (level x y x p q)

pub max_greater : (x y : ℤ) → int_max x y ≡ greater_z x y
max_greater x y = go (lt_z x y) (lt_z y x) refl refl
  where
    go : (s t : Bool) → lt_z x y ≡ s → lt_z y x ≡ t → int_max x y ≡ greater_z x y
    go true true p q = rw (p, q) (crossed x y x p q)
    go true false p q = rw (p, q)
    go false true p q = rw (p, q)
    go false false p q = rw (p, q) (sym (level x y x p q))

same : (x y z : ℤ) → le_z x x ≡ true
same = shifted (λ x y z. le_z x x ≡ true) (λ o a b c. le_shift o a a ∙ le-leb a a (omega arith))

-- which of two numbers a choice by a test gives, and how they stand
data Chosen (x y : ℤ) : Type 0 where
  less : le_z x y ≡ true → lesser_z x y ≡ x → greater_z x y ≡ y → Chosen x y
  more : le_z y x ≡ true → lesser_z x y ≡ y → greater_z x y ≡ x → Chosen x y

chosen : (x y : ℤ) → Chosen x y
chosen x y = go (lt_z x y) refl
  where
    go : (t : Bool) → lt_z x y ≡ t → Chosen x y
    go true e = less (below x y x e) (rw e) (rw e)
    go false e = more (not_below x y x e) (rw e) (rw e)

-- a number of f 0 .. f n
abbrev Among : (ℕ → ℤ) → ℕ → ℤ → Type 0
Among f n z = (i : ℕ) × (i ≤ n) × (z ≡ f i)

module _ (f : ℕ → ℤ) where
  pub least_among : (n : ℕ) → Among f n (least_z f n)
  unfolding least_z
  least_among zero = (0, omega arith, refl)
  least_among (suc n) = go (chosen (least_z f n) (f (suc n))) (least_among n)
    where
      go : Chosen (least_z f n) (f (suc n)) → Among f n (least_z f n) → Among f (suc n) (lesser_z (least_z f n) (f (suc n)))
      go (less h a b) w = (w.0, omega (arith, w.1), a ∙ w.2)
      go (more h a b) w = (suc n, omega arith, a)

  pub least_below : (n i : ℕ) → i ≤ n → le_z (least_z f n) (f i) ≡ true
  unfolding least_z
  least_below zero i h = let e : i ≡ 0 = omega arith in rw e (same (f 0) (f 0) (f 0))
  least_below (suc n) i h =
      go (chosen (least_z f n) (f (suc n)))
      (⊎_elim
      (λ (e : i ≡ suc n). inr e) (λ (d : i ≡ suc n → ⊥). let l : i ≤ n = omega (arith, d) in inl (least_below n i l)) (eq_or i (suc n)))
    where
      go : Chosen (least_z f n) (f (suc n)) → (le_z (least_z f n) (f i) ≡ true) ⊎ (i ≡ suc n) → le_z (lesser_z (least_z f n) (f (suc n))) (f i) ≡ true
      go (less h a b) (inl l) = rw a l
      go (less h a b) (inr e) = rw (a, e) h
      go (more h a b) (inl l) = rw a (le_trans_z (f (suc n)) (least_z f n) (f i) h l)
      go (more h a b) (inr e) = rw (a, e) (same (f (suc n)) (f 0) (f 0))

  pub greatest_among : (n : ℕ) → Among f n (greatest_z f n)
  unfolding greatest_z
  greatest_among zero = (0, omega arith, refl)
  greatest_among (suc n) = go (chosen (greatest_z f n) (f (suc n))) (greatest_among n)
    where
      go : Chosen (greatest_z f n) (f (suc n)) → Among f n (greatest_z f n) → Among f (suc n) (greater_z (greatest_z f n) (f (suc n)))
      go (less h a b) w = (suc n, omega arith, b)
      go (more h a b) w = (w.0, omega (arith, w.1), b ∙ w.2)

  pub greatest_above : (n i : ℕ) → i ≤ n → le_z (f i) (greatest_z f n) ≡ true
  unfolding greatest_z
  greatest_above zero i h = let e : i ≡ 0 = omega arith in rw e (same (f 0) (f 0) (f 0))
  greatest_above (suc n) i h =
      go (chosen (greatest_z f n) (f (suc n)))
      (⊎_elim
      (λ (e : i ≡ suc n). inr e) (λ (d : i ≡ suc n → ⊥). let l : i ≤ n = omega (arith, d) in inl (greatest_above n i l)) (eq_or i (suc n)))
    where
      go : Chosen (greatest_z f n) (f (suc n)) → (le_z (f i) (greatest_z f n) ≡ true) ⊎ (i ≡ suc n) → le_z (f i) (greater_z (greatest_z f n) (f (suc n))) ≡ true
      go (less h a b) (inl l) = rw b (le_trans_z (f i) (greatest_z f n) (f (suc n)) l h)
      go (less h a b) (inr e) = rw (b, e) (same (f (suc n)) (f 0) (f 0))
      go (more h a b) (inl l) = rw b l
      go (more h a b) (inr e) = rw (b, e) h
