-- A segment entered in one stripe after the other. Assumes nothing.
use Prim.Native.Nat.{ℕ, ◌+◌, ◌≤◌, ◌<◌}
use mathlib.Core.Path.{◌≡◌, refl, sym, ap, ◌∙◌}
use mathlib.Core.List.{List, [], ◌∷◌, ◌++◌, append-nil}
use mathlib.Core.Bool.{Bool, true, false, ◌&&◌}
use mathlib.Core.Logic.{inl, inr}
use native.Mathlib.Omega.{arith}
use lib.ListN.{length}
use lib.Dec.{ltb}
use borrow.Author.Tests.{lt-ltb, le-ltb}
use Rattle.room.specs.Numbers.{cons_if, up_to}
use Rattle.room.proofs.Cases.{lt_or}
use Rattle.room.proofs.UpTo.{up_to_done, up_to_more, up_to_split, up_to_length}
use Rattle.stripes_index.specs.Index.{part_of}

-- the test on one number more
pub part_next : (t : ℕ → Bool) (i : ℕ) → up_to t (i + 1) 0 ≡ up_to t i 0 ++ cons_if (t i) i []
part_next t i =
    up_to_split t (i + 1) i 0 (omega arith) (omega arith)
    ∙ ap (λ (xs : List ℕ). up_to t i 0 ++ xs)
    (up_to_more t (i + 1) i (omega arith) ∙ ap (λ (xs : List ℕ). cons_if (t i) i xs) (up_to_done t (i + 1) (i + 1) (omega arith)))

-- what stripe t has when the segments below i are entered, and i itself in the stripes below s
unfoldable pub entered : (ℕ → ℕ → Bool) → ℕ → ℕ → ℕ → List ℕ
entered cross i s t = part_of cross i t ++ cons_if (cross t i && ltb t s) i []

same_and : (a b c : Bool) → (a ≡ true → b ≡ c) → (a && b) ≡ (a && c)
same_and true b c h = h refl
same_and false b c h = refl

module _ (cross : ℕ → ℕ → Bool) (i s : ℕ) where
  -- before the first stripe, and past the last
  pub entered_none : (t : ℕ) → (cross t i ≡ true → s ≤ t) → entered cross i s t ≡ part_of cross i t
  unfolding entered
  entered_none t h =
      ap (λ (b : Bool). part_of cross i t ++ cons_if b i []) (same_and (cross t i) (ltb t s) false (λ e. le-ltb t s (h e)) ∙ no (cross t i))
      ∙ append-nil (part_of cross i t)
    where
      no : (b : Bool) → (b && false) ≡ false
      no true = refl
      no false = refl

  pub entered_all : (t : ℕ) → (cross t i ≡ true → t < s) → entered cross i s t ≡ part_of cross (i + 1) t
  unfolding entered
  entered_all t h =
      ap (λ (b : Bool). part_of cross i t ++ cons_if b i []) (same_and (cross t i) (ltb t s) true (λ e. lt-ltb t s (h e)) ∙ yes (cross t i))
      ∙ sym (part_next (cross t) i)
    where
      yes : (b : Bool) → (b && true) ≡ b
      yes true = refl
      yes false = refl

  -- at s itself, and elsewhere
  pub entered_now : entered cross i s s ≡ part_of cross i s
  entered_now = entered_none s (λ e. omega arith)

  pub entered_next : cross s i ≡ true → entered cross i (s + 1) s ≡ part_of cross i s ++ (i ∷ [])
  unfolding entered
  entered_next e = rw (e, lt-ltb s (s + 1) (omega arith))

  pub entered_other : (t : ℕ) → (t ≡ s → ⊥) → entered cross i s t ≡ entered cross i (s + 1) t
  unfolding entered
  entered_other t h = ap (λ (b : Bool). part_of cross i t ++ cons_if (cross t i && b) i []) same
    where
      same : ltb t s ≡ ltb t (s + 1)
      same = elim (lt_or t s) [ inl l ↦ lt-ltb t s l ∙ sym (lt-ltb t (s + 1) (omega arith)) | inr g ↦ le-ltb t s g ∙ sym (le-ltb t (s + 1) (omega arith)) ]

pub part_length : (cross : ℕ → ℕ → Bool) (i s : ℕ) → length (part_of cross i s) ≤ i
part_length cross i s = omega (arith, up_to_length (cross s) i 0)
