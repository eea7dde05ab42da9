-- Laws of two numbers a stripe in room with zeros after them. Assumes nothing.
use Prim.Native.Nat.{ℕ, zero, suc, ◌+◌, ◌*◌, ◌-◌, ◌≤◌, ◌<◌}
use mathlib.Core.Path.{◌≡◌, refl, sym, ap, ap₂, ◌∙◌}
use mathlib.Core.List.{List, [], ◌∷◌, ◌++◌}
use native.Mathlib.Omega.{arith}
use lib.ListN.{length, get_or, set, replicate, length-append, length-replicate, replicate-append-replicate}
use Rattle.room.specs.Room.{padded, pad}
use Rattle.stripes_index.specs.Joined.{joined}
use Rattle.stripes_index.specs.Inner.States.{pairs, none}
use Rattle.stripes_index.proofs.Joined.{joined_ext, joined_get, joined_set, pad_get, pad_set}

pub pairs_length : (a b : ℕ → ℕ) (m : ℕ) → length (pairs a b m) ≡ m * 2
unfolding joined
pairs_length a b zero = refl
pairs_length a b (suc m) = length-append (pairs a b m) (a m ∷ b m ∷ []) ∙ omega (arith, pairs_length a b m)

pub pairs_ext : (a a' b b' : ℕ → ℕ) (m : ℕ) → ((s : ℕ) → s < m → a s ≡ a' s) → ((s : ℕ) → s < m → b s ≡ b' s) → pairs a b m ≡ pairs a' b' m
pairs_ext a a' b b' m h k = joined_ext _ _ m (λ s l. ap₂ (λ (x y : ℕ). x ∷ y ∷ []) (h s l) (k s l))

module _ (n m : ℕ) (a b : ℕ → ℕ) (s : ℕ) (h : s < m) where
  at : (k : ℕ) → length (pairs a b s) + k ≡ s * 2 + k
  at k = ap (λ (x : ℕ). x + k) (pairs_length a b s)

  inside : (k : ℕ) → k < 2 → s * 2 + k < length (pairs a b m)
  inside k l = omega (arith, pairs_length a b m)

  front : length (pairs a b s) + 0 ≡ s * 2
  front = omega (arith, pairs_length a b s)

  pub pairs_first : get_or (pad n (pairs a b m)) (s * 2) 0 ≡ a s
  pairs_first =
      pad_get n (pairs a b m) (s * 2) (omega (arith, inside 0 (omega arith)))
      ∙ ap (λ (i : ℕ). get_or (pairs a b m) i 0) (sym front)
      ∙ joined_get (λ s. a s ∷ b s ∷ []) s 0 (omega arith) m h

  pub pairs_second : get_or (pad n (pairs a b m)) (s * 2 + 1) 0 ≡ b s
  pairs_second =
      pad_get n (pairs a b m) (s * 2 + 1) (inside 1 (omega arith))
      ∙ ap (λ (i : ℕ). get_or (pairs a b m) i 0) (sym (at 1))
      ∙ joined_get (λ s. a s ∷ b s ∷ []) s 1 (omega arith) m h

  pub pairs_set_first : (a' : ℕ → ℕ) → ((t : ℕ) → t < m → (t ≡ s → ⊥) → a t ≡ a' t)
      → set (pad n (pairs a b m)) (s * 2) (a' s) ≡ pad n (pairs a' b m)
  pairs_set_first a' same =
      pad_set n (pairs a b m) (s * 2) (a' s) (omega (arith, inside 0 (omega arith)))
      ∙ ap (pad n)
      (ap (λ (i : ℕ). set (pairs a b m) i (a' s)) (sym front)
      ∙ joined_set (λ s. a s ∷ b s ∷ []) s 0 (omega arith) (λ s. a' s ∷ b s ∷ []) (a' s) m h (λ t l e. ap (λ (x : ℕ). x ∷ b t ∷ []) (same t l e)) refl)

  pub pairs_set_second : (b' : ℕ → ℕ) → ((t : ℕ) → t < m → (t ≡ s → ⊥) → b t ≡ b' t)
      → set (pad n (pairs a b m)) (s * 2 + 1) (b' s) ≡ pad n (pairs a b' m)
  pairs_set_second b' same =
      pad_set n (pairs a b m) (s * 2 + 1) (b' s) (inside 1 (omega arith))
      ∙ ap (pad n)
      (ap (λ (i : ℕ). set (pairs a b m) i (b' s)) (sym (at 1))
      ∙ joined_set (λ s. a s ∷ b s ∷ []) s 1 (omega arith) (λ s. a s ∷ b' s ∷ []) (b' s) m h (λ t l e. ap (λ (x : ℕ). a t ∷ x ∷ []) (same t l e)) refl)

-- zeros
pub pad_zeros : (n k : ℕ) → k ≤ n → pad n (replicate k 0) ≡ replicate n 0
unfolding padded
pad_zeros n k h =
    let e : k + (n - k) ≡ n = omega arith in
    rw (length-replicate {A = ℕ} k 0) (replicate-append-replicate k (n - k) 0 ∙ ap (λ (j : ℕ). replicate j 0) e)

pub zero_pairs : (m : ℕ) → pairs none none m ≡ replicate (m * 2) 0
unfolding joined
zero_pairs zero = refl
zero_pairs (suc m) =
    let e : m * 2 + 2 ≡ suc m * 2 = omega arith in
    ap (λ (xs : List ℕ). xs ++ (0 ∷ 0 ∷ [])) (zero_pairs m) ∙ replicate-append-replicate (m * 2) 2 0 ∙ ap (λ (j : ℕ). replicate j 0) e
