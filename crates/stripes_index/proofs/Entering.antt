-- What a store of the counting and of the entering loop makes of the lent room. Assumes nothing.
use Prim.Native.Nat.{ℕ, zero, suc, ◌+◌, ◌*◌, ◌-◌, ◌≤◌, ◌<◌}
use mathlib.Core.Path.{◌≡◌, refl, sym, ap, ◌∙◌}
use mathlib.Core.List.{List, [], ◌∷◌, ◌++◌, append-nil}
use mathlib.Core.Bool.{Bool, true, false, ◌&&◌}
use native.Mathlib.Omega.{arith}
use lib.ListN.{length, get_or, set, replicate, length-append, length-replicate, replicate-append-replicate}
use lib.Dec.{ltb}
use Rattle.room.specs.Numbers.{cons_if, up_to}
use Rattle.room.specs.Room.{padded, pad}
use Rattle.room.proofs.Fill.{pad_length, pad_none}
use Rattle.room.proofs.UpTo.{up_to_split, up_to_done}
use Rattle.stripes_index.specs.Joined.{joined}
use Rattle.stripes_index.specs.Index.{part_of, list_of}
use Rattle.stripes_index.specs.Inner.States.{pairs, none, counts_at, table_at, list_at_of}
use Rattle.stripes_index.proofs.Joined.{joined_ext, joined_length, joined_rises, joined_set, pad_set, pad_push}
use Rattle.stripes_index.proofs.Pairs.{pairs_first, pairs_second, pairs_set_second, pairs_ext, pad_zeros, zero_pairs}
use Rattle.stripes_index.proofs.Turns.{entered, entered_none, entered_all, entered_now, entered_next, entered_other, part_next}

-- while segment i is entered, its stripes below s being done: the stripes, with the starts a
abbrev pub counts_to : (ℕ → ℕ → Bool) → ℕ → (ℕ → ℕ) → ℕ → ℕ → List ℕ
counts_to cross m a i s = pairs a (λ t. length (entered cross i s t)) m

-- and the list of n segments
abbrev pub numbers_to : (ℕ → ℕ → Bool) → ℕ → ℕ → ℕ → ℕ → List ℕ
numbers_to cross m n i s = joined (λ t. pad (length (part_of cross n t)) (entered cross i s t)) m

module _ (cross : ℕ → ℕ → Bool) where
  -- a part of fewer segments is no longer
  pub part_grows : (i n t : ℕ) → i ≤ n → length (part_of cross i t) ≤ length (part_of cross n t)
  part_grows i n t h =
      omega (arith, ap length (up_to_split (cross t) n i 0 (omega arith) h), length-append (up_to (cross t) i 0) (up_to (cross t) n i))

  entered_short : (i s t : ℕ) → length (entered cross i s t) ≤ length (part_of cross (i + 1) t)
  unfolding entered
  entered_short i s t =
      omega (
        arith,
        ap length (part_next (cross t) i),
        length-append (part_of cross i t) (cons_if (cross t i) i []),
        length-append (part_of cross i t) (cons_if (cross t i && ltb t s) i []),
        go (cross t i) (ltb t s),
      )
    where
      go : (a b : Bool) → length (cons_if (a && b) i []) ≤ length (cons_if a i [])
      go true true = omega arith
      go true false = omega arith
      go false b = omega arith

  -- the part of the first i, room for it and for i itself
  pub part_room : (i n s : ℕ) → i < n → cross s i ≡ true → length (part_of cross i s) < length (part_of cross n s)
  part_room i n s h e =
      let k : length (part_of cross (i + 1) s) ≡ length (part_of cross i s) + 1 =
      ap length (part_next (cross s) i) ∙ rw e (length-append (part_of cross i s) (i ∷ [])) in
      omega (arith, part_grows (i + 1) n s (omega arith))

-- ---- one stripe more
module _ (cross : ℕ → ℕ → Bool) (m i s : ℕ) (h : s < m) where
  pub count_is : (room : ℕ) (a : ℕ → ℕ) → get_or (pad room (counts_to cross m a i s)) (s * 2 + 1) 0 ≡ length (part_of cross i s)
  count_is room a = pairs_second room m a (λ t. length (entered cross i s t)) s h ∙ ap length (entered_now cross i s)

  pub count_turn : (room : ℕ) (a : ℕ → ℕ) → cross s i ≡ true
      → set (pad room (counts_to cross m a i s)) (s * 2 + 1) (get_or (pad room (counts_to cross m a i s)) (s * 2 + 1) 0 + 1)
      ≡ pad room (counts_to cross m a i (s + 1))
  count_turn room a e =
      ap (λ (v : ℕ). set (pad room (counts_to cross m a i s)) (s * 2 + 1) v)
      (ap (λ (c : ℕ). c + 1) (count_is room a) ∙ sym (ap length (entered_next cross i s e) ∙ length-append (part_of cross i s) (i ∷ [])))
      ∙ pairs_set_second room m a (λ t. length (entered cross i s t)) s h (λ t. length (entered cross i (s + 1) t))
      (λ t l w. ap length (entered_other cross i s t w))

  -- where the part of stripe s starts, and what it has so far
  pub stripe_reads : (n room : ℕ) (xs : List ℕ) → xs ≡ pad room (counts_to cross m (λ t. length (list_of cross n t)) i s)
      → (get_or xs (s * 2) 0 ≡ length (list_of cross n s)) × (get_or xs (s * 2 + 1) 0 ≡ length (part_of cross i s))
  stripe_reads n room xs w =
      let a : ℕ → ℕ = λ t. length (list_of cross n t) in (
        ap (λ (ys : List ℕ). get_or ys (s * 2) 0) w ∙ pairs_first room m a (λ t. length (entered cross i s t)) s h,
        ap (λ (ys : List ℕ). get_or ys (s * 2 + 1) 0) w ∙ count_is room a,
      )

  module _ (n : ℕ) (k : i < n) (e : cross s i ≡ true) where
    long : (t : ℕ) → length (pad (length (part_of cross n t)) (entered cross i s t)) ≡ length (part_of cross n t)
    long t =
        pad_length (length (part_of cross n t)) (entered cross i s t)
        (omega (arith, entered_short cross i s t, part_grows cross (i + 1) n t (omega arith)))

    starts : (r : ℕ) → length (numbers_to cross r n i s) ≡ length (list_of cross n r)
    starts r = joined_length _ _ r (λ t l. long t)

    -- the place of the new number lies in the list
    pub number_inside : length (list_of cross n s) + length (part_of cross i s) < length (list_of cross n m)
    number_inside = omega (arith, part_room cross i n s k e, joined_rises (part_of cross n) m s h)

    -- as read from the stripes
    pub slot_inside : (room : ℕ) (xs : List ℕ) (p q long : ℕ) → xs ≡ pad room (counts_to cross m (λ t. length (list_of cross n t)) i s)
        → p ≡ get_or xs (s * 2) 0 → q ≡ get_or xs (s * 2 + 1) 0 → length (list_of cross n m) ≤ long → p + q < long
    slot_inside room xs p q long w u v b =
        let r = stripe_reads n room xs w in
        omega (arith, r.0, r.1, number_inside)

    pub number_turn : (room : ℕ)
        → set (pad room (numbers_to cross m n i s)) (length (list_of cross n s) + length (part_of cross i s)) i
        ≡ pad room (numbers_to cross m n i (s + 1))
    number_turn room =
        pad_set room (numbers_to cross m n i s) (length (list_of cross n s) + length (part_of cross i s)) i (omega (arith, number_inside, starts m))
        ∙ ap (pad room)
        (ap (λ (j : ℕ). set (numbers_to cross m n i s) (j + length (part_of cross i s)) i) (sym (starts s))
        ∙ joined_set (λ t. pad (length (part_of cross n t)) (entered cross i s t)) s (length (part_of cross i s))
        (omega (arith, long s, part_room cross i n s k e))
        (λ t. pad (length (part_of cross n t)) (entered cross i (s + 1) t)) i m h
        (λ t l w. ap (pad (length (part_of cross n t))) (entered_other cross i s t w))
        (ap (λ (xs : List ℕ). set (pad (length (part_of cross n s)) xs) (length (part_of cross i s)) i) (entered_now cross i s)
        ∙ pad_push (length (part_of cross n s)) (part_of cross i s) i (part_room cross i n s k e)
        ∙ ap (pad (length (part_of cross n s))) (sym (entered_next cross i s e))))

-- ---- before the first stripe that i crosses, and past the last
module _ (cross : ℕ → ℕ → Bool) (m i s : ℕ) where
  pub counts_from : (a : ℕ → ℕ) → ((t : ℕ) → cross t i ≡ true → s ≤ t) → counts_to cross m a i s ≡ pairs a (λ t. length (part_of cross i t)) m
  counts_from a h = pairs_ext a a _ _ m (λ t l. refl) (λ t l. ap length (entered_none cross i s t (h t)))

  pub counts_done : (a : ℕ → ℕ) → ((t : ℕ) → cross t i ≡ true → t < s) → counts_to cross m a i s ≡ pairs a (λ t. length (part_of cross (i + 1) t)) m
  counts_done a h = pairs_ext a a _ _ m (λ t l. refl) (λ t l. ap length (entered_all cross i s t (h t)))

  pub numbers_from : (n : ℕ) → ((t : ℕ) → cross t i ≡ true → s ≤ t) → numbers_to cross m n i s ≡ list_at_of cross m n i
  numbers_from n h = joined_ext _ _ m (λ t l. ap (pad (length (part_of cross n t))) (entered_none cross i s t (h t)))

  pub numbers_done : (n : ℕ) → ((t : ℕ) → cross t i ≡ true → t < s) → numbers_to cross m n i s ≡ list_at_of cross m n (i + 1)
  numbers_done n h = joined_ext _ _ m (λ t l. ap (pad (length (part_of cross n t))) (entered_all cross i s t (h t)))

-- ---- before the first segment, and past the last
module _ (cross : ℕ → ℕ → Bool) (m : ℕ) where
  none_yet : (a : ℕ → ℕ) → pairs a (λ t. length (part_of cross 0 t)) m ≡ pairs a none m
  none_yet a = pairs_ext a a _ _ m (λ t l. refl) (λ t l. ap length (up_to_done (cross t) 0 0 (omega arith)))

  pub counts_zero : (room : ℕ) → m * 2 ≤ room → replicate room 0 ≡ pad room (counts_at cross m 0)
  counts_zero room h = sym (ap (pad room) (none_yet none ∙ zero_pairs m) ∙ pad_zeros room (m * 2) h)

  pub table_zero : (n : ℕ) → pairs (λ s. length (list_of cross n s)) none m ≡ table_at cross m n 0
  table_zero n = sym (none_yet (λ s. length (list_of cross n s)))

  zeros : (f : ℕ → ℕ) (r : ℕ) → joined (λ t. replicate (f t) 0) r ≡ replicate (length (joined (λ t. replicate (f t) 0) r)) 0
  unfolding joined
  zeros f zero = refl
  zeros f (suc r) =
      let xs = joined (λ t. replicate (f t) 0) r in
      let e : length xs + f r ≡ length (xs ++ replicate (f r) 0) = sym (length-append xs (replicate (f r) 0) ∙ ap (λ (j : ℕ). length xs + j) (length-replicate {A = ℕ} (f r) 0)) in
      ap (λ (ys : List ℕ). ys ++ replicate (f r) 0) (zeros f r)
      ∙ replicate-append-replicate (length xs) (f r) 0
      ∙ ap (λ (j : ℕ). replicate j 0) e

  pub list_zero : (n room : ℕ) → length (list_of cross n m) ≤ room → replicate room 0 ≡ pad room (list_at_of cross m n 0)
  list_zero n room h =
      let f : ℕ → ℕ = λ t. length (part_of cross n t) in
      let l : length (joined (λ t. replicate (f t) 0) m) ≡ length (list_of cross n m) = joined_length _ _ m (λ t k. length-replicate {A = ℕ} (f t) 0) in
      sym
      (ap (pad room) (joined_ext _ _ m (λ t k. ap (pad (f t)) (up_to_done (cross t) 0 0 (omega arith)) ∙ pad_none (f t)) ∙ zeros f m)
      ∙ pad_zeros room (length (joined (λ t. replicate (f t) 0) m)) (omega arith))

  pub list_full : (n : ℕ) → list_at_of cross m n n ≡ list_of cross n m
  unfolding padded
  list_full n = joined_ext _ _ m (λ t l. let e : length (part_of cross n t) - length (part_of cross n t) ≡ 0 = omega arith in rw e (append-nil (part_of cross n t)))
