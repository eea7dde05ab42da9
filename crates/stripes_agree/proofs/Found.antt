-- What a search finds in an index as built: the stripe's part, tested. Assumes nothing.
use mathlib.Core.Path.{◌≡◌, refl, sym, ap, ap₂, ◌∙◌}
use mathlib.Core.List.{List, [], ◌∷◌, ◌++◌, append_assoc}
use mathlib.Core.Logic.{⊎_elim}
use Prim.Native.Nat.{ℕ, zero, suc, ◌+◌, ◌-◌, ◌*◌, ◌/◌, ◌^◌, ◌≤◌, ◌<◌}
use native.Mathlib.Omega.{arith}
use mathlib.Core.Bool.{Bool, true, false, ◌&&◌}
use lib.ListN.{length, get_or, drop, length-append}
use lib.Seq.{slice, take-append-add, take-append_seam, drop-append_seam}
use lib.Ieee.{Float}
use borrow.Author.Tests.{lt-ltb, ne_eqb, le-ltb}
use Rattle.room.specs.Numbers.{cons_if, keep, up_to}
use Rattle.room.proofs.Cases.{lt_or}
use Rattle.stripes_place.specs.Stripe.{stripe_of}
use Rattle.stripes_place.proofs.Mono.{stripe_below}
use Rattle.stripes_index.specs.Joined.{joined}
use Rattle.stripes_index.specs.Index.{part_of, list_of, table_of}
use Rattle.stripes_index.proofs.Joined.{joined_rises, joined_get}
use Rattle.stripes_index.proofs.Pairs.{pairs_length}
use Rattle.stripes_find.specs.Search.{Ending, complete, found_in, end_in, read_stripe}

-- ---- of numbers by rising number, all below n, the found are those that meet both tests
module _ (n : ℕ) (t meets : ℕ → Bool) where
  both : (a : Bool) (x : ℕ) (xs : List ℕ) → x < n → found_in n meets (cons_if a x xs) ≡ cons_if (a && meets x) x (found_in n meets xs)
  unfolding found_in
  both true x xs h = rw (lt-ltb x n h)
  both false x xs h = refl

  found_keep : (k i : ℕ) → i + k ≤ n → found_in n meets (keep t k i) ≡ keep (λ j. t j && meets j) k i
  unfolding keep found_in
  found_keep zero i h = refl
  found_keep (suc k) i h =
      both (t i) i (keep t k (i + 1)) (omega arith)
      ∙ ap (λ (xs : List ℕ). cons_if (t i && meets i) i xs) (found_keep k (i + 1) (omega arith))

  pub found_up_to : found_in n meets (up_to t n 0) ≡ up_to (λ j. t j && meets j) n 0
  unfolding up_to
  found_up_to = found_keep (n - 0) 0 (omega arith)

  end_cons : (a : Bool) (at x : ℕ) (xs : List ℕ) → x < n → ((b : ℕ) → end_in n b xs ≡ complete) → end_in n at (cons_if a x xs) ≡ complete
  unfolding end_in
  end_cons true at x xs h all = rw (lt-ltb x n h) (all (at + 1))
  end_cons false at x xs h all = all at

  end_keep : (k i at : ℕ) → i + k ≤ n → end_in n at (keep t k i) ≡ complete
  unfolding keep end_in
  end_keep zero i at h = refl
  end_keep (suc k) i at h = end_cons (t i) at i (keep t k (i + 1)) (omega arith) (λ b. end_keep k (i + 1) b (omega arith))

  pub end_up_to : (at : ℕ) → end_in n at (up_to t n 0) ≡ complete
  unfolding up_to
  end_up_to at = end_keep (n - 0) 0 at (omega arith)

-- ---- the run of list s in lists one after the other, and whatever stands behind them
joined_slice : (f : ℕ → List ℕ) (m s : ℕ) (rest : List ℕ) → s < m
    → slice (length (joined f s)) (length (joined f s) + length (f s)) (joined f m ++ rest) ≡ f s
unfolding joined
joined_slice f zero s rest h = absurd (omega arith)
joined_slice f (suc m) s rest h =
    ⊎_elim
    (λ (l : s < m). ap (λ (xs : List ℕ). slice (length (joined f s)) (length (joined f s) + length (f s)) xs) (append_assoc (joined f m) (f m) rest)
    ∙ joined_slice f m s (f m ++ rest) l)
    (λ (g : m ≤ s). let e : m ≡ s = omega arith in
    rw e
    (ap (λ (xs : List ℕ). slice (length (joined f s)) (length (joined f s) + length (f s)) xs) (append_assoc (joined f s) (f s) rest)
    ∙ ap (λ (xs : List ℕ). drop (length (joined f s)) xs)
    (take-append-add (joined f s) (f s ++ rest) (length (f s)) ∙ ap (λ (xs : List ℕ). joined f s ++ xs) (take-append_seam (f s) rest))
    ∙ drop-append_seam (joined f s) (f s)))
    (lt_or s m)

-- ---- an index as built, whatever stands behind its list
module _ (cross : ℕ → ℕ → Bool) (n m : ℕ) (some : 0 < m) (few : m < 2 ^ 64) (rest : List ℕ) (meets : ℕ → Bool) (least height y : Float) where
  halves : length (table_of cross n m) / 2 ≡ m
  halves = omega (arith, pairs_length (λ s. length (list_of cross n s)) (λ s. length (part_of cross n s)) m)

  module _ (s : ℕ) (h : s < m) where
    start_is : get_or (table_of cross n m) (s * 2) 0 ≡ length (list_of cross n s)
    start_is =
        let e : length (table_of cross n s) + 0 ≡ s * 2 = omega (arith, pairs_length (λ s. length (list_of cross n s)) (λ s. length (part_of cross n s)) s) in
        ap (λ (i : ℕ). get_or (table_of cross n m) i 0) (sym e)
        ∙ joined_get (λ s. length (list_of cross n s) ∷ length (part_of cross n s) ∷ []) s 0 (omega arith) m h

    count_is : get_or (table_of cross n m) (s * 2 + 1) 0 ≡ length (part_of cross n s)
    count_is =
        let e : length (table_of cross n s) + 1 ≡ s * 2 + 1 = omega (arith, pairs_length (λ s. length (list_of cross n s)) (λ s. length (part_of cross n s)) s) in
        ap (λ (i : ℕ). get_or (table_of cross n m) i 0) (sym e)
        ∙ joined_get (λ s. length (list_of cross n s) ∷ length (part_of cross n s) ∷ []) s 1 (omega arith) m h

    part_inside : length (list_of cross n s) + length (part_of cross n s) ≤ length (list_of cross n m ++ rest)
    part_inside = omega (arith, joined_rises (part_of cross n) m s h, length-append (list_of cross n m) rest)

  pub built_reads : read_stripe n meets least height (table_of cross n m) (list_of cross n m ++ rest) y
      ≡ record { found = up_to (λ i. cross (stripe_of y least height m) i && meets i) n 0; ending = complete }
  unfolding read_stripe
  built_reads =
      let s = stripe_of y least height m in
      let h : s < m = stripe_below y least height m some few in
      rw (
        halves,
        ne_eqb m 0 (λ e. omega arith),
        start_is s h,
        count_is s h,
        le-ltb (length (list_of cross n m ++ rest)) (length (list_of cross n s) + length (part_of cross n s)) (part_inside s h),
        joined_slice (part_of cross n) m s rest h,
      )
      (ap₂ (λ (xs : List ℕ) (e : Ending). record { found = xs; ending = e }) (found_up_to n (cross s) meets) (end_up_to n (cross s) meets (length (list_of cross n s))))
