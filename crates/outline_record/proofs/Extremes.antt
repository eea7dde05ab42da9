-- The least and the greatest of a ring's coordinates, one point after another, and that they are the same as floats. Assumes nothing.
use Prim.Native.Nat.{ℕ, zero, suc, ◌+◌, ◌*◌, ◌^◌, ◌≤◌}
use mathlib.Core.Path.{◌≡◌, refl, sym, ap, ◌∙◌, subst}
use mathlib.Core.List.{List}
use mathlib.Core.Bool.{Bool, true, false, not, cond, or-false}
use native.Mathlib.Omega.{arith}
use native.Mathlib.Numerals.{add-one}
use lib.ListN.{get_or}
use lib.IntN.{ℤ, pos, nat_abs}
use lib.Signed.{lt_z}
use lib.Dec.{T}
use lib.Ieee.{Float, binary64, of_int, lt, eq, ne}
use lib.Ieee.Bits.{is_true}
use Rattle.std.specs.Int.{int_min, int_max}
use Rattle.floats.specs.Values.{lesser_of, greater_of}
use Rattle.floats.proofs.Order.{le_refl, le_antisym, lt_le, lt_not_le}
use Rattle.floats.proofs.Ints.{of_int_lt, of_int_number}
use Rattle.tree.specs.Tree.{least, greatest}
use Rattle.outline_record.specs.Record.{lesser_z, greater_z, least_z, greatest_z, picked_z}
use Rattle.outline_record.proofs.Among.{level, min_lesser, max_greater}

-- the first (offset 0) or the second (offset 1) coordinate of point k
abbrev pub at : List ℤ → ℕ → ℕ → ℤ
at ring offset k = get_or ring (k * 2 + offset) (pos 0)

module _ (ring : List ℤ) (offset : ℕ) (pick : ℤ → ℤ → ℤ) where
  pub picked_first : get_or ring offset (pos 0) ≡ picked_z pick (at ring offset) 0
  unfolding picked_z
  picked_first = ap (λ (k : ℕ). get_or ring k (pos 0)) (omega arith)

  pub picked_next : (i : ℕ) → pick (picked_z pick (at ring offset) i) (at ring offset (i + 1)) ≡ picked_z pick (at ring offset) (i + 1)
  unfolding picked_z
  picked_next i = rw add-one

pub picked_least : (f : ℕ → ℤ) (n : ℕ) → picked_z int_min f n ≡ least_z f n
unfolding picked_z least_z
picked_least f zero = refl
picked_least f (suc n) = ap (λ (x : ℤ). int_min x (f (suc n))) (picked_least f n) ∙ min_lesser (least_z f n) (f (suc n))

pub picked_greatest : (f : ℕ → ℤ) (n : ℕ) → picked_z int_max f n ≡ greatest_z f n
unfolding picked_z greatest_z
picked_greatest f zero = refl
picked_greatest f (suc n) = ap (λ (x : ℤ). int_max x (f (suc n))) (picked_greatest f n) ∙ max_greater (greatest_z f n) (f (suc n))

-- a whole number that a float holds
abbrev Small : ℤ → Type 0
Small z = nat_abs z ≤ 2 ^ 53

pick_small : (b : Bool) (x y : ℤ) → Small x → Small y → Small (cond b x y)
pick_small true x y h k = h
pick_small false x y h k = k

-- of whole numbers, the lesser and the greater are the same as floats
module _ (a b : ℤ) (h : Small a) (k : Small b) where
  self : ne (of_int binary64 a) (of_int binary64 a) ≡ false
  unfolding ne
  self =
      let x = of_int binary64 a in
      let l = le_refl x (of_int_number a h).1 in
      ap not (is_true (eq x x) (le_antisym x x l l))

  lesser_float : of_int binary64 (lesser_z a b) ≡ lesser_of (of_int binary64 a) (of_int binary64 b)
  unfolding lesser_of
  lesser_float = rw (self, or-false (lt (of_int binary64 b) (of_int binary64 a)), of_int_lt b a k h) (go (lt_z a b) (lt_z b a) refl refl)
    where
      go : (s t : Bool) → lt_z a b ≡ s → lt_z b a ≡ t → of_int binary64 (cond s a b) ≡ cond t (of_int binary64 b) (of_int binary64 a)
      go true true e f =
          let less : T (lt (of_int binary64 a) (of_int binary64 b)) = subst T (sym (of_int_lt a b h k ∙ e)) tt in
          let more : T (lt (of_int binary64 b) (of_int binary64 a)) = subst T (sym (of_int_lt b a k h ∙ f)) tt in
          absurd (lt_not_le (of_int binary64 a) (of_int binary64 b) less (lt_le (of_int binary64 b) (of_int binary64 a) more))
      go true false e f = refl
      go false true e f = refl
      go false false e f = ap (of_int binary64) (sym (level a b a e f))

  greater_float : of_int binary64 (greater_z a b) ≡ greater_of (of_int binary64 a) (of_int binary64 b)
  unfolding greater_of
  greater_float = rw (self, or-false (lt (of_int binary64 a) (of_int binary64 b)), of_int_lt a b h k) (go (lt_z a b))
    where
      go : (s : Bool) → of_int binary64 (cond s b a) ≡ cond s (of_int binary64 b) (of_int binary64 a)
      go true = refl
      go false = refl

module _ (f : ℕ → ℤ) where
  least_small : (n : ℕ) → ((i : ℕ) → i ≤ n → Small (f i)) → Small (least_z f n)
  unfolding least_z
  least_small zero h = h 0 (omega arith)
  least_small (suc n) h =
      pick_small (lt_z (least_z f n) (f (suc n))) (least_z f n) (f (suc n)) (least_small n (λ i l. h i (omega arith))) (h (suc n) (omega arith))

  greatest_small : (n : ℕ) → ((i : ℕ) → i ≤ n → Small (f i)) → Small (greatest_z f n)
  unfolding greatest_z
  greatest_small zero h = h 0 (omega arith)
  greatest_small (suc n) h =
      pick_small (lt_z (greatest_z f n) (f (suc n))) (f (suc n)) (greatest_z f n) (h (suc n) (omega arith)) (greatest_small n (λ i l. h i (omega arith)))

  -- as floats they are the least and the greatest of the floats
  pub least_float : (n : ℕ) → ((i : ℕ) → i ≤ n → Small (f i)) → of_int binary64 (least_z f n) ≡ least (λ i. of_int binary64 (f i)) n
  unfolding least_z least
  least_float zero h = refl
  least_float (suc n) h =
      let below : (i : ℕ) → i ≤ n → Small (f i) = λ i l. h i (omega arith) in
      let a = least_z f n in let b = f (suc n) in
      lesser_float a b (least_small n below) (h (suc n) (omega arith))
      ∙ ap (λ (x : Float). lesser_of x (of_int binary64 b)) (least_float n below)

  pub greatest_float : (n : ℕ) → ((i : ℕ) → i ≤ n → Small (f i)) → of_int binary64 (greatest_z f n) ≡ greatest (λ i. of_int binary64 (f i)) n
  unfolding greatest_z greatest
  greatest_float zero h = refl
  greatest_float (suc n) h =
      let below : (i : ℕ) → i ≤ n → Small (f i) = λ i l. h i (omega arith) in
      let a = greatest_z f n in let b = f (suc n) in
      greater_float a b (greatest_small n below) (h (suc n) (omega arith))
      ∙ ap (λ (x : Float). greater_of x (of_int binary64 b)) (greatest_float n below)
