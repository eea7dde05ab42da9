-- Laws of a run of elements written at a place.
use Prim.Native.Nat.{ℕ, suc, ◌+◌, ◌≤◌, ◌<◌}
use mathlib.Core.Path.{◌≡◌, refl, ◌∙◌}
use mathlib.Core.List.{List, [], ◌∷◌, ◌++◌}
use native.Mathlib.Omega.{arith}
use native.Mathlib.Numerals.{add-one}
use lib.ListN.{length, get_or, take, drop, set, length-set}
use lib.Seq.{get_or-set_other, sets, sets-eq}
use Rattle.room.specs.Room.{write}

module _ {A : Type 0} where
  pub write_length : (l : List A) (i : ℕ) (vs : List A) → length (write l i vs) ≡ length l
  unfolding write
  write_length l i [] = refl
  write_length l i (v ∷ vs) = write_length (set l i v) (i + 1) vs ∙ length-set l i v

  -- what stands before the place stays
  pub write_before : (l : List A) (i k : ℕ) (vs : List A) (d : A) → k < i → get_or (write l i vs) k d ≡ get_or l k d
  unfolding write
  write_before l i k [] d h = refl
  write_before l i k (v ∷ vs) d h =
      write_before (set l i v) (i + 1) k vs d (omega arith) ∙ get_or-set_other l i k v d (λ e. omega arith)

  write_sets : (l : List A) (i : ℕ) (vs : List A) → write l i vs ≡ sets l i vs
  unfolding write
  write_sets l i [] = refl
  write_sets l i (v ∷ vs) = rw add-one (write_sets (set l i v) (suc i) vs)

  -- a run that fits, between what stays before and behind it
  pub write_eq : (l : List A) (i : ℕ) (vs : List A) → i + length vs ≤ length l
      → write l i vs ≡ take i l ++ vs ++ drop (i + length vs) l
  write_eq l i vs h = write_sets l i vs ∙ sets-eq vs l i h

  -- one run after the other is one run
  pub write_append : (l : List A) (i : ℕ) (us vs : List A)
      → write (write l i us) (i + length us) vs ≡ write l i (us ++ vs)
  unfolding write
  write_append l i [] vs = let e : i + 0 ≡ i = omega arith in rw e
  write_append l i (u ∷ us) vs =
      let e : i + suc (length us) ≡ i + 1 + length us = omega arith in rw e (write_append (set l i u) (i + 1) us vs)
