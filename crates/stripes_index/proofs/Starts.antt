-- The stripes' starts are the running sums of their counts. Assumes nothing.
use Prim.Native.Nat.{ℕ, zero, suc, ◌+◌, ◌*◌, ◌≤◌, ◌<◌, max}
use mathlib.Core.Path.{◌≡◌, refl, sym, ap, ap₂, ◌∙◌}
use mathlib.Core.List.{List}
use mathlib.Core.Bool.{Bool, cond}
use mathlib.Core.Logic.{inl, inr}
use native.Mathlib.Omega.{arith}
use lib.ListN.{length, get_or, set, length-append}
use lib.Dec.{ltb}
use borrow.Author.Tests.{lt-ltb, le-ltb}
use Rattle.room.specs.Room.{pad}
use Rattle.room.proofs.Cases.{lt_or}
use Rattle.stripes_index.specs.Joined.{joined}
use Rattle.stripes_index.specs.Index.{part_of, list_of, entries_of, fullest_of}
use Rattle.stripes_index.specs.Inner.States.{pairs, none, second_at, sum_to, most_to, counts_at, table_at}
use Rattle.stripes_index.proofs.Entering.{table_zero}
use Rattle.stripes_index.proofs.Pairs.{pairs_ext, pairs_second, pairs_set_first, pairs_set_second}

pub sum_bound : (c : ℕ → ℕ) (k m : ℕ) → ((s : ℕ) → s < m → c s ≤ k) → sum_to c m ≤ m * k
unfolding sum_to
sum_bound c k zero h = omega arith
sum_bound c k (suc m) h = omega (arith, sum_bound c k m (λ s l. h s (omega arith)), h m (omega arith))

pub most_bound : (c : ℕ → ℕ) (k m : ℕ) → ((s : ℕ) → s < m → c s ≤ k) → most_to c m ≤ k
unfolding most_to
most_bound c k zero h = omega arith
most_bound c k (suc m) h = omega (arith, most_bound c k m (λ s l. h s (omega arith)), h m (omega arith))

pub sum_ext : (c d : ℕ → ℕ) (m : ℕ) → ((s : ℕ) → s < m → c s ≡ d s) → sum_to c m ≡ sum_to d m
unfolding sum_to
sum_ext c d zero h = refl
sum_ext c d (suc m) h = ap₂ ◌+◌ (sum_ext c d m (λ s l. h s (omega arith))) (h m (omega arith))

pub most_ext : (c d : ℕ → ℕ) (m : ℕ) → ((s : ℕ) → s < m → c s ≡ d s) → most_to c m ≡ most_to d m
unfolding most_to
most_ext c d zero h = refl
most_ext c d (suc m) h = ap₂ max (most_ext c d m (λ s l. h s (omega arith))) (h m (omega arith))

-- of an index's parts
module _ (cross : ℕ → ℕ → Bool) (n : ℕ) where
  pub sum_starts : (m : ℕ) → sum_to (λ s. length (part_of cross n s)) m ≡ length (list_of cross n m)
  unfolding sum_to joined
  sum_starts zero = refl
  sum_starts (suc m) =
      ap (λ (j : ℕ). j + length (part_of cross n m)) (sum_starts m) ∙ sym (length-append (list_of cross n m) (part_of cross n m))

  pub most_fullest : (m : ℕ) → most_to (λ s. length (part_of cross n s)) m ≡ fullest_of cross n m
  unfolding most_to fullest_of
  most_fullest zero = refl
  most_fullest (suc m) = ap (λ (j : ℕ). max j (length (part_of cross n m))) (most_fullest m)

-- ---- the loop: below t the starts are placed, from there on the counts stand
abbrev pub starts_to : (ℕ → ℕ) → ℕ → ℕ → List ℕ
starts_to c m t = pairs (λ s. cond (ltb s t) (sum_to c s) 0) (λ s. cond (ltb s t) 0 (c s)) m

other : {A : Type 0} (s t : ℕ) (x y : A) → (s ≡ t → ⊥) → cond (ltb s t) x y ≡ cond (ltb s (t + 1)) x y
other s t x y h =
    elim (lt_or s t) [
      | inl l ↦ rw (lt-ltb s t l, lt-ltb s (t + 1) (omega arith))
      | inr g ↦ rw (le-ltb s t g, le-ltb s (t + 1) (omega arith))
    ]

module _ (c : ℕ → ℕ) (room m : ℕ) where
  pub starts_none : starts_to c m 0 ≡ pairs none c m
  starts_none = pairs_ext _ none _ c m (λ s l. rw (le-ltb s 0 (omega arith))) (λ s l. rw (le-ltb s 0 (omega arith)))

  pub starts_all : starts_to c m m ≡ pairs (sum_to c) none m
  starts_all = pairs_ext _ (sum_to c) _ none m (λ s l. rw (lt-ltb s m l)) (λ s l. rw (lt-ltb s m l))

  module _ (t : ℕ) (h : t < m) where
    pub start_count : get_or (pad room (starts_to c m t)) (t * 2 + 1) 0 ≡ c t
    start_count =
        pairs_second room m (λ s. cond (ltb s t) (sum_to c s) 0) (λ s. cond (ltb s t) 0 (c s)) t h ∙ rw (le-ltb t t (omega arith))

    pub start_turn : set (set (pad room (starts_to c m t)) (t * 2) (sum_to c t)) (t * 2 + 1) 0 ≡ pad room (starts_to c m (t + 1))
    start_turn =
        let a : ℕ → ℕ = λ s. cond (ltb s t) (sum_to c s) 0 in
        let b : ℕ → ℕ = λ s. cond (ltb s t) 0 (c s) in
        let a' : ℕ → ℕ = λ s. cond (ltb s (t + 1)) (sum_to c s) 0 in
        let b' : ℕ → ℕ = λ s. cond (ltb s (t + 1)) 0 (c s) in
        let e : sum_to c t ≡ a' t = rw (lt-ltb t (t + 1) (omega arith)) in
        let f : 0 ≡ b' t = rw (lt-ltb t (t + 1) (omega arith)) in
        ap₂ (λ (v w : ℕ). set (set (pad room (starts_to c m t)) (t * 2) v) (t * 2 + 1) w) e f
        ∙ ap (λ (xs : List ℕ). set xs (t * 2 + 1) (b' t)) (pairs_set_first room m a b t h a' (λ s l w. other s t (sum_to c s) 0 w))
        ∙ pairs_set_second room m a' b t h b' (λ s l w. other s t 0 (c s) w)

-- ---- what the counts of n segments come to
module _ (cross : ℕ → ℕ → Bool) (n m room : ℕ) (xs : List ℕ) (w : xs ≡ pad room (counts_at cross m n)) where
  pub counted : (s : ℕ) → s < m → second_at xs s ≡ length (part_of cross n s)
  counted s h = ap (λ (ys : List ℕ). get_or ys (s * 2 + 1) 0) w ∙ pairs_second room m none (λ t. length (part_of cross n t)) s h

  pub counted_form : length xs ≡ room → xs ≡ pad (length xs) (pairs none (second_at xs) m)
  counted_form e =
      w ∙ ap₂ pad (sym e) (pairs_ext none none (λ t. length (part_of cross n t)) (second_at xs) m (λ s l. refl) (λ s l. sym (counted s l)))

  sums : (k : ℕ) → k ≤ m → sum_to (second_at xs) k ≡ length (list_of cross n k)
  sums k h = sum_ext (second_at xs) (λ s. length (part_of cross n s)) k (λ s l. counted s (omega arith)) ∙ sum_starts cross n k

  pub counted_entries : sum_to (second_at xs) m ≡ entries_of cross n m
  counted_entries = sums m (omega arith)

  pub counted_fullest : most_to (second_at xs) m ≡ fullest_of cross n m
  counted_fullest = most_ext (second_at xs) (λ s. length (part_of cross n s)) m counted ∙ most_fullest cross n m

  pub counted_table : pairs (sum_to (second_at xs)) none m ≡ table_at cross m n 0
  counted_table =
      pairs_ext (sum_to (second_at xs)) (λ s. length (list_of cross n s)) none none m (λ s l. sums s (omega arith)) (λ s l. refl)
      ∙ table_zero cross m n
