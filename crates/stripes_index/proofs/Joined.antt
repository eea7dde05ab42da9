-- Laws of lists one after the other, and of a store into one of them. Assumes nothing.
use Prim.Native.Nat.{ℕ, zero, suc, ◌+◌, ◌-◌, ◌≤◌, ◌<◌}
use mathlib.Core.Path.{◌≡◌, refl, sym, ap, ap₂, ◌∙◌}
use mathlib.Core.List.{List, [], ◌∷◌, ◌++◌, append_assoc}
use mathlib.Core.Logic.{⊎_elim}
use native.Mathlib.Omega.{arith}
use lib.ListN.{length, get_or, take, drop, set, replicate, length-append, length-set, get_or-append}
use lib.Seq.{set-append_left, get_or-append-add, drop-append-add, take-append_seam}
use Rattle.room.specs.Room.{padded, pad}
use Rattle.room.proofs.Cases.{lt_or}
use Rattle.stripes_index.specs.Joined.{joined}

pub set_append_add : {A : Type 0} (xs ys : List A) (i : ℕ) (a : A) → set (xs ++ ys) (length xs + i) a ≡ xs ++ set ys i a
set_append_add [] ys i a = let e : 0 + i ≡ i = omega arith in rw e
set_append_add (x ∷ xs) ys i a = let e : suc (length xs) + i ≡ suc (length xs + i) = omega arith in rw e (ap (λ (r : List _). x ∷ r) (set_append_add xs ys i a))

pub joined_ext : (f g : ℕ → List ℕ) (m : ℕ) → ((s : ℕ) → s < m → f s ≡ g s) → joined f m ≡ joined g m
unfolding joined
joined_ext f g zero h = refl
joined_ext f g (suc m) h = ap₂ ◌++◌ (joined_ext f g m (λ s l. h s (omega arith))) (h m (omega arith))

-- lists of like lengths
pub joined_length : (f g : ℕ → List ℕ) (m : ℕ) → ((s : ℕ) → s < m → length (f s) ≡ length (g s)) → length (joined f m) ≡ length (joined g m)
unfolding joined
joined_length f g zero h = refl
joined_length f g (suc m) h =
    length-append (joined f m) (f m)
    ∙ ap₂ ◌+◌ (joined_length f g m (λ s l. h s (omega arith))) (h m (omega arith))
    ∙ sym (length-append (joined g m) (g m))

pub joined_rises : (f : ℕ → List ℕ) (m t : ℕ) → t < m → length (joined f t) + length (f t) ≤ length (joined f m)
unfolding joined
joined_rises f zero t h = absurd (omega arith)
joined_rises f (suc m) t h =
    ⊎_elim
    (λ (l : t < m). omega (arith, joined_rises f m t l, length-append (joined f m) (f m)))
    (λ (g : m ≤ t). let e : t ≡ m = omega arith in rw e (omega (arith, length-append (joined f m) (f m))))
    (lt_or t m)

module _ (f : ℕ → List ℕ) (t k : ℕ) (inside : k < length (f t)) where
  -- the k-th number of the list t
  pub joined_get : (m : ℕ) → t < m → get_or (joined f m) (length (joined f t) + k) 0 ≡ get_or (f t) k 0
  unfolding joined
  joined_get zero h = absurd (omega arith)
  joined_get (suc m) h =
      ⊎_elim
      (λ (l : t < m). get_or-append (joined f m) (f m) 0 (length (joined f t) + k) (omega (arith, joined_rises f m t l)) ∙ joined_get m l)
      (λ (g : m ≤ t). let e : m ≡ t = omega arith in rw e (get_or-append-add (joined f t) (f t) k 0))
      (lt_or t m)

  -- stored there
  pub joined_set : (g : ℕ → List ℕ) (v m : ℕ) → t < m → ((s : ℕ) → s < m → (s ≡ t → ⊥) → f s ≡ g s) → set (f t) k v ≡ g t
      → set (joined f m) (length (joined f t) + k) v ≡ joined g m
  unfolding joined
  joined_set g v zero h same new = absurd (omega arith)
  joined_set g v (suc m) h same new =
      ⊎_elim
      (λ (l : t < m). set-append_left (joined f m) (f m) (length (joined f t) + k) v (omega (arith, joined_rises f m t l))
      ∙ ap₂ ◌++◌ (joined_set g v m l (λ s a b. same s (omega arith) b) new) (same m (omega arith) (λ e. omega arith)))
      (λ (l : m ≤ t). let e : m ≡ t = omega arith in
      rw e
      (set_append_add (joined f t) (f t) k v
      ∙ ap₂ ◌++◌ (joined_ext f g t (λ s a. same s (omega arith) (λ w. omega arith))) new))
      (lt_or t m)

-- the list t as a run of the whole
pub joined_part : (f : ℕ → List ℕ) (m t : ℕ) (rest : List ℕ) → t < m → take (length (f t)) (drop (length (joined f t)) (joined f m ++ rest)) ≡ f t
unfolding joined
joined_part f zero t rest h = absurd (omega arith)
joined_part f (suc m) t rest h =
    ⊎_elim
    (λ (l : t < m). ap (λ (xs : List ℕ). take (length (f t)) (drop (length (joined f t)) xs)) (append_assoc (joined f m) (f m) rest) ∙ joined_part f m t (f m ++ rest) l)
    (λ (g : m ≤ t). let e : m ≡ t = omega arith in
    let z : length (joined f t) ≡ length (joined f t) + 0 = omega arith in
    rw e
    (ap (λ (xs : List ℕ). take (length (f t)) (drop (length (joined f t)) xs)) (append_assoc (joined f t) (f t) rest)
    ∙ ap (λ (i : ℕ). take (length (f t)) (drop i (joined f t ++ (f t ++ rest)))) z
    ∙ ap (λ (xs : List ℕ). take (length (f t)) xs) (drop-append-add (joined f t) (f t ++ rest) 0)
    ∙ take-append_seam (f t) rest))
    (lt_or t m)

-- ---- the same in room with zeros after it
module _ (n : ℕ) (xs : List ℕ) where
  pub pad_get : (i : ℕ) → i < length xs → get_or (pad n xs) i 0 ≡ get_or xs i 0
  unfolding padded
  pad_get i h = get_or-append xs _ 0 i h

  pub pad_set : (i v : ℕ) → i < length xs → set (pad n xs) i v ≡ pad n (set xs i v)
  unfolding padded
  pad_set i v h = rw (length-set) (set-append_left xs _ i v h)

-- one number more
pub pad_push : (n : ℕ) (xs : List ℕ) (v : ℕ) → length xs < n → set (pad n xs) (length xs) v ≡ pad n (xs ++ (v ∷ []))
unfolding padded
pad_push n xs v h =
    let z : length xs ≡ length xs + 0 = omega arith in
    let e : n - length xs ≡ suc (n - (length xs + 1)) = omega arith in
    ap (λ (i : ℕ). set (xs ++ replicate (n - length xs) 0) i v) z
    ∙ set_append_add xs (replicate (n - length xs) 0) 0 v
    ∙ rw (e, length-append) (sym (append_assoc xs (v ∷ []) (replicate (n - (length xs + 1)) 0)))
