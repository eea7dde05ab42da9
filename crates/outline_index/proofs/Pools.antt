-- Laws of parts one after the other in one room. Assumes nothing.
use Prim.Native.Nat.{ℕ, zero, suc, ◌+◌, ◌-◌, ◌*◌, ◌≤◌, ◌<◌}
use mathlib.Core.Path.{◌≡◌, sym, ap, ap₂, ◌∙◌}
use mathlib.Core.List.{List, [], ◌++◌, append_assoc, append-nil}
use mathlib.Core.Bool.{Bool, true}
use mathlib.Core.Logic.{⊎_elim}
use native.Mathlib.Omega.{arith}
use lib.ListN.{length, take, drop, replicate, length-append, length-drop, length-replicate}
use native.Mathlib.Nat.{sub-zero, zero-sub, suc-sub-suc}
use lib.Seq.{take_all, take-append_seam, drop-append-add, drop-length, length-take-le}
use lib.Dec.{leb}
use borrow.Author.Tests.{le-leb, lt-leb}
use borrow.Rule.Slice.PartMut.{put_mid, Post-is}
use Rattle.room.specs.Room.{padded, pad}
use Rattle.room.proofs.Cases.{lt_or}
use Rattle.rings.proofs.Checks.{both}
use Rattle.outline_index.specs.Pools.{in_turn, pad_with, every}
use Rattle.outline_index.specs.Inner.Step.{ZeroFrom, behind}

module _ {A : Type 0} where
  -- the parts of more rings are longer
  pub turn_rises : (f : ℕ → List A) (k m : ℕ) → k ≤ m → length (in_turn f k) ≤ length (in_turn f m)
  unfolding in_turn
  turn_rises f k zero h = let e : k ≡ 0 = omega arith in rw e (omega arith)
  turn_rises f k (suc m) h =
      ⊎_elim
      (λ (l : k < suc m). omega (arith, turn_rises f k m (omega arith), length-append (in_turn f m) (f m)))
      (λ (g : suc m ≤ k). let e : k ≡ suc m = omega arith in rw e (omega arith))
      (lt_or k (suc m))

  pub turn_more : (f : ℕ → List A) (k : ℕ) → length (in_turn f (suc k)) ≡ length (in_turn f k) + length (f k)
  unfolding in_turn
  turn_more f k = length-append (in_turn f k) (f k)

  pub turn_like : (f : ℕ → List A) (w m : ℕ) → ((k : ℕ) → length (f k) ≡ w) → length (in_turn f m) ≡ w * m
  unfolding in_turn
  turn_like f w zero h = omega arith
  turn_like f w (suc m) h = omega (arith, length-append (in_turn f m) (f m), turn_like f w m h, h m, mul_more w m)
    where
      mul_more : (w m : ℕ) → w * suc m ≡ w * m + w
      mul_more w m = omega arith

  -- the rest of a room that was lent from a place on, and comes back
  pub rest_is : (at : ℕ) (xs : List A) → take (length xs - at) (drop at xs) ≡ drop at xs
  rest_is at xs = take_all (length xs - at) (drop at xs) (omega (arith, length-drop at xs))

  pub rest_back : (at : ℕ) (xs ys : List A) → at ≤ length xs → put_mid at (length xs - at) xs ys ≡ take at xs ++ ys
  rest_back at xs ys h =
      ap (λ (r : List A). take at xs ++ (ys ++ r)) (Post-is at (length xs) xs h ∙ drop-length xs) ∙ ap (λ (r : List A). take at xs ++ r) (append-nil ys)

module _ {A : Type 0} (z : A) where
  -- a part in what is left of a room
  pub pad_behind : (at : ℕ) (xs part : List A) → at ≤ length xs
      → take at xs ++ pad_with z (length (drop at xs)) part ≡ pad_with z (length xs) (take at xs ++ part)
  unfolding padded
  pad_behind at xs part h =
      let e : length (drop at xs) - length part ≡ length xs - length (take at xs ++ part) =
      omega (arith, length-drop at xs, length-append (take at xs) part, length-take-le at xs h) in
      rw e (sym (append_assoc (take at xs) part _))

  zeros_left : (k n : ℕ) → drop k (replicate n z) ≡ replicate (n - k) z
  zeros_left zero n = rw sub-zero
  zeros_left (suc k) zero = rw zero-sub
  zeros_left (suc k) (suc n) = rw suc-sub-suc (zeros_left k n)

  -- a part written over the zeros behind what is used
  pub pad_over : (n : ℕ) (xs part : List A) → length xs + length part ≤ n
      → take (length xs) (pad_with z n xs) ++ part ++ drop (length xs + length part) (pad_with z n xs) ≡ pad_with z n (xs ++ part)
  unfolding padded
  pad_over n xs part h =
      let e : n - length (xs ++ part) ≡ n - length xs - length part = omega (arith, length-append xs part) in
      rw e
      (ap₂ (λ (u v : List A). u ++ part ++ v) (take-append_seam xs (replicate (n - length xs) z))
      (drop-append-add xs (replicate (n - length xs) z) (length part) ∙ zeros_left (length part) (n - length xs)))

  pub pad_length : (n : ℕ) (xs : List A) → length xs ≤ n → length (pad_with z n xs) ≡ n
  unfolding padded
  pad_length n xs h = omega (arith, length-append xs (replicate (n - length xs) z), length-replicate (n - length xs) z)

  pub pad_none : (n : ℕ) → pad_with z n [] ≡ replicate n z
  unfolding padded
  pad_none n = rw sub-zero

  pub pad_front : (n : ℕ) (xs : List A) → take (length xs) (pad_with z n xs) ≡ xs
  unfolding padded
  pad_front n xs = take-append_seam xs (replicate (n - length xs) z)

pub behind_rest : (at : ℕ) (xs part : List ℕ) → at ≤ length xs → take at xs ++ pad (length (drop at xs)) part ≡ behind at xs part
behind_rest at xs part h = pad_behind 0 at xs part h

module _ (at : ℕ) (xs : List ℕ) (zero : ZeroFrom at xs) where
  pub behind_none : behind at xs [] ≡ xs
  behind_none = rw append-nil (sym zero.1)

  pub rest_zero : take at xs ++ replicate (length (drop at xs)) 0 ≡ xs
  rest_zero =
      ap (λ (r : List ℕ). take at xs ++ r) (sym (pad_none 0 (length (drop at xs)))) ∙ behind_rest at xs [] zero.0 ∙ behind_none

-- a room of which P is used, up to a place
module _ (n at : ℕ) (P xs : List ℕ) (is : xs ≡ pad n P) (end : at ≡ length P) (fits : at ≤ n) where
  pub used_length : length xs ≡ n
  used_length = ap length is ∙ pad_length 0 n P (omega arith)

  pub used_front : take at xs ≡ P
  used_front = ap₂ take end is ∙ pad_front 0 n P

  pub used_zero : ZeroFrom at xs
  used_zero = (omega (arith, used_length), is ∙ sym (ap₂ pad used_length used_front))

  -- and with one part more
  pub used_more : (part : List ℕ) → behind at xs part ≡ pad n (P ++ part)
  used_more part = ap₂ (λ (m : ℕ) (front : List ℕ). pad m (front ++ part)) used_length used_front

-- ---- tests
pub leb_shift : (a x n : ℕ) → a ≤ n → leb x (n - a) ≡ leb (a + x) n
leb_shift a x n h =
    ⊎_elim
    (λ (l : n < a + x). lt-leb x (n - a) (omega arith) ∙ sym (lt-leb (a + x) n l))
    (λ (g : a + x ≤ n). le-leb x (n - a) (omega arith) ∙ sym (le-leb (a + x) n g))
    (lt_or n (a + x))

-- what holds of each holds of one
pub every_one : (t : ℕ → Bool) (k m : ℕ) → k < m → every t m ≡ true → t k ≡ true
unfolding every
every_one t k zero h e = absurd (omega arith)
every_one t k (suc m) h e =
    let w = both (every t m) (t m) e in
    ⊎_elim (λ (l : k < m). every_one t k m l w.0) (λ (g : m ≤ k). let s : k ≡ m = omega arith in ap t s ∙ w.1) (lt_or k m)

pub every_more : (t : ℕ → Bool) (m : ℕ) → every t m ≡ true → t m ≡ true → every t (suc m) ≡ true
unfolding every
every_more t m a b = rw (a, b)
