-- Zeros behind a used part, and the loop that stores them one by one. The loop's laws are over the element type and the value stored.
use Prim.Native.Nat.{ℕ, zero, suc, ◌+◌, ◌-◌, ◌≤◌, ◌<◌}
use mathlib.Core.Path.{◌≡◌, refl, sym, ap, ◌∙◌}
use mathlib.Core.List.{List, [], ◌++◌, append-nil}
use native.Mathlib.Omega.{arith}
use native.Mathlib.Nat.{zero-add, sub-zero, zero-sub, suc-sub-suc}
use native.Mathlib.Numerals.{add-one}
use lib.ListN.{length, take, drop, set, replicate, length-set, length-take, length-append, length-replicate}
use lib.Seq.{take_all, take-suc-set, append_snoc}
use borrow.Author.Tests.{le-leb, lt-leb}
use Rattle.room.specs.Room.{padded, write, pad, room_of}
use Rattle.room.proofs.Write.{write_eq}

module _ {A : Type 0} (z : A) where
  -- l with z from i on
  unfoldable pub filled : List A → ℕ → List A
  filled l i = take i l ++ replicate (length l - i) z

  pub filled_done : (l : List A) (i : ℕ) → length l ≤ i → filled l i ≡ l
  unfolding filled
  filled_done l i h =
      let e : length l - i ≡ 0 = omega arith in
      rw e (append-nil (take i l) ∙ take_all i l h)

  -- one store of z at i changes nothing in what the loop comes to
  pub filled_more : (l : List A) (i : ℕ) → i < length l → filled l i ≡ filled (set l i z) (i + 1)
  unfolding filled
  filled_more l i h =
      let e : length l - i ≡ suc (length l - suc i) = omega arith in
      rw (add-one, length-set, take-suc-set l i z h, e) (sym (append_snoc (take i l) z _))

  -- the loop's invariant: from l₀ and at it comes to the same as from l and i
  pub record Filling (l₀ : List A) (at : ℕ) (l : List A) (i : ℕ) : Type 0 where
    pub same : filled l₀ at ≡ filled l i
    pub long : length l ≡ length l₀

  pub filling : (l : List A) (at : ℕ) → Filling l at l at
  filling l at = record { same = refl; long = refl }

  pub filling_more : (l₀ : List A) (at : ℕ) (l : List A) (i : ℕ) → i < length l → Filling l₀ at l i
      → Filling l₀ at (set l i z) (i + 1)
  filling_more l₀ at l i h f = record { same = f.same ∙ filled_more l i h; long = length-set l i z ∙ f.long }

  pub filling_done : (l₀ : List A) (at : ℕ) (l : List A) (i : ℕ) → length l ≤ i → Filling l₀ at l i → l ≡ filled l₀ at
  filling_done l₀ at l i h f = sym (f.same ∙ filled_done l i h)

  drop_replicate : (k n : ℕ) → drop k (replicate n z) ≡ replicate (n - k) z
  drop_replicate zero n = rw sub-zero
  drop_replicate (suc k) zero = rw zero-sub
  drop_replicate (suc k) (suc n) = rw suc-sub-suc (drop_replicate k n)

  -- the same as a used part and what stands behind it
  pub padded_filled : (l : List A) (i : ℕ) → padded z (length l) (take i l) ≡ filled l i
  unfolding padded filled
  padded_filled l i = let e : length l - length (take i l) ≡ length l - i = omega (arith, length-take i l) in rw e

pub pad_filled : (l : List ℕ) (i : ℕ) → pad (length l) (take i l) ≡ filled 0 l i
pad_filled l i = padded_filled 0 l i

pub pad_none : (n : ℕ) → pad n [] ≡ replicate n 0
unfolding padded
pad_none n = rw sub-zero

pub pad_length : (n : ℕ) (xs : List ℕ) → length xs ≤ n → length (pad n xs) ≡ n
unfolding padded
pad_length n xs h = simp (length-append, length-replicate) (omega arith)

-- a list written at the front of room full of zeros
pub write_pad : (n : ℕ) (xs : List ℕ) → length xs ≤ n → write (replicate n 0) 0 xs ≡ pad n xs
unfolding padded
write_pad n xs h =
    write_eq (replicate n 0) 0 xs (simp length-replicate (omega arith))
    ∙ ap (λ (r : List ℕ). xs ++ r) (rw zero-add (drop_replicate 0 (length xs) n))

module _ (n : ℕ) (xs : List ℕ) where
  pub room_fits : length xs ≤ n → room_of n xs ≡ pad n xs
  unfolding room_of
  room_fits h = rw (le-leb (length xs) n h)

  pub room_short : n < length xs → room_of n xs ≡ replicate n 0
  unfolding room_of
  room_short h = rw (lt-leb (length xs) n h)
