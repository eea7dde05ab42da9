-- Laws of a rule over all rings. Assumes nothing.
use Rattle.std.specs.Prelude.{Ok, Err, Option, Some, None}
use Prim.Native.Nat.{ℕ, zero, suc, ◌+◌, ◌-◌, ◌≤◌, ◌<◌}
use mathlib.Core.Path.{◌≡◌, refl, sym, ap, ◌∙◌}
use mathlib.Core.List.{List}
use mathlib.Core.Bool.{Bool, true, false, not}
use mathlib.Core.Logic.{⊎_elim}
use native.Mathlib.Omega.{arith}
use native.Mathlib.Nat.{sub-zero, le_trans}
use lib.Dec.{ltb}
use lib.ListN.{length}
use borrow.Author.Tests.{ltb-false, not-true}
use Rattle.std.specs.List.{position, position_or_len}
use Rattle.std.proofs.lemmas.List.Quantifiers.{position-Some}
use Rattle.std.proofs.lemmas.List.Sums.{prefix_len_passes}
use Rattle.answers.specs.declared.Refusal.{Refusal}
use Rattle.room.proofs.Cases.{eq_or}
use Rattle.rings.specs.Checks.{Checked, holding, then_checked}
use Rattle.outline_check.specs.Outline.{size_at}
use Rattle.outline_check.specs.Rules.{for_from, for_each}

-- a rule before others, where all is sound
pub held : (t : Bool) (why : Refusal) (later : Checked) → holding t why later ≡ Ok tt → (t ≡ true) × (later ≡ Ok tt)
held true why later e = (refl, e)
held false why later e = (cc, cc)

pub then_sound : (first later : Checked) → then_checked first later ≡ Ok tt → (first ≡ Ok tt) × (later ≡ Ok tt)
then_sound (Ok _) later e = (refl, e)
then_sound (Err why) later e = (cc, cc)

pub holding_then : (t : Bool) (why : Refusal) (first later : Checked) → holding t why (then_checked first later) ≡ then_checked (holding t why first) later
holding_then true why first later = refl
holding_then false why first later = refl

module _ (ok : ℕ → Bool) (why : ℕ → Refusal) where
  -- the rule over the rings from k up to n
  unfoldable pub for_up : ℕ → ℕ → Checked → Checked
  for_up n k later = for_from ok why (n - k) k later

  up_start : (n : ℕ) (later : Checked) → for_each ok why n later ≡ for_up n 0 later
  unfolding for_up
  up_start n later = rw sub-zero

  up_done : (n k : ℕ) (later : Checked) → n ≤ k → for_up n k later ≡ later
  unfolding for_up for_from
  up_done n k later h = let e : n - k ≡ 0 = omega arith in rw e

  up_holds : (n k : ℕ) (later : Checked) → k < n → ok k ≡ true → for_up n k later ≡ for_up n (k + 1) later
  unfolding for_up for_from
  up_holds n k later h t = let e : n - k ≡ suc (n - (k + 1)) = omega arith in rw (e, t)

  up_fault : (n k : ℕ) (later : Checked) → k < n → ok k ≡ false → for_up n k later ≡ Err (why k)
  unfolding for_up for_from
  up_fault n k later h t = let e : n - k ≡ suc (n - (k + 1)) = omega arith in rw (e, t)

  -- the invariant of a loop over the rings: the rule from ring k on comes to what it comes to from the start
  pub record Walking (n k : ℕ) : Type 0 where
    pub within : k ≤ n
    pub same : for_up n k (Ok tt) ≡ for_each ok why n (Ok tt)

  pub walking : (n : ℕ) → Walking n 0
  walking n = record { within = omega arith; same = sym (up_start n (Ok tt)) }

  pub walk_on : (n k : ℕ) → Walking n k → k < n → ok k ≡ true → Walking n (k + 1)
  walk_on n k w h t = record { within = omega arith; same = sym (up_holds n k (Ok tt) h t) ∙ w.same }

  pub walk_fault : (n k : ℕ) → Walking n k → k < n → ok k ≡ false → Err (why k) ≡ for_each ok why n (Ok tt)
  walk_fault n k w h t = sym (up_fault n k (Ok tt) h t) ∙ w.same

  pub walk_done : (n k : ℕ) → Walking n k → n ≤ k → Ok tt ≡ for_each ok why n (Ok tt)
  walk_done n k w h = sym (up_done n k (Ok tt) h) ∙ w.same

  -- what follows a rule is asked where the rule holds
  from_then : (n k : ℕ) (first later : Checked) → for_from ok why n k (then_checked first later) ≡ then_checked (for_from ok why n k first) later
  unfolding for_from
  from_then zero k first later = refl
  from_then (suc n) k first later =
      ap (holding (ok k) (why k)) (from_then n (k + 1) first later) ∙ holding_then (ok k) (why k) (for_from ok why n (k + 1) first) later

  pub each_then : (n : ℕ) (first later : Checked) → for_each ok why n (then_checked first later) ≡ then_checked (for_each ok why n first) later
  each_then n first later = from_then n 0 first later

  -- a rule that is passed holds of each ring
  from_sound : (n k : ℕ) (later : Checked) → for_from ok why n k later ≡ Ok tt → ((j : ℕ) → k ≤ j → j < k + n → ok j ≡ true) × (later ≡ Ok tt)
  unfolding for_from
  from_sound zero k later e = (λ j a b. absurd (omega arith), e)
  from_sound (suc n) k later e =
      let one = held (ok k) (why k) (for_from ok why n (k + 1) later) e in
      let rest = from_sound n (k + 1) later one.1 in
      (λ j a b. ⊎_elim (λ (s : k ≡ j). ap ok (sym s) ∙ one.0) (λ (d : k ≡ j → ⊥). rest.0 j (after j a d) (omega arith)) (eq_or k j), rest.1)
    where
      after : (j : ℕ) → k ≤ j → (k ≡ j → ⊥) → k + 1 ≤ j
      after j a d = omega (arith, d)

  pub each_sound : (n : ℕ) (later : Checked) → for_each ok why n later ≡ Ok tt → ((j : ℕ) → j < n → ok j ≡ true) × (later ≡ Ok tt)
  each_sound n later e = let s = from_sound n 0 later e in (λ j h. s.0 j (omega arith) (omega arith), s.1)

  -- and a rule that holds of each ring is passed
  from_all : (n k : ℕ) (later : Checked) → ((j : ℕ) → k ≤ j → j < k + n → ok j ≡ true) → for_from ok why n k later ≡ later
  unfolding for_from
  from_all zero k later h = refl
  from_all (suc n) k later h = rw (h k (omega arith) (omega arith)) (from_all n (k + 1) later (λ j a b. h j (omega arith) (omega arith)))

  pub each_all : (n : ℕ) (later : Checked) → ((j : ℕ) → j < n → ok j ≡ true) → for_each ok why n later ≡ later
  each_all n later h = from_all n 0 later (λ j a b. h j (omega arith))

  -- "the lowest at fault is named"
  from_lowest : (n k : ℕ) (later : Checked) (j : ℕ) → k ≤ j → j < k + n → ok j ≡ false → ((i : ℕ) → k ≤ i → i < j → ok i ≡ true)
      → for_from ok why n k later ≡ Err (why j)
  unfolding for_from
  from_lowest zero k later j a b t h = absurd (omega arith)
  from_lowest (suc n) k later j a b t h =
      ⊎_elim
      (λ (s : k ≡ j). rw (ap ok s ∙ t) (ap (λ (i : ℕ). Err (why i)) s))
      (λ (d : k ≡ j → ⊥). let l : k < j = omega (arith, d) in rw (h k (omega arith) l) (from_lowest n (k + 1) later j (omega arith) (omega arith) t (λ i c e. h i (omega arith) e)))
      (eq_or k j)

  pub each_lowest : (n : ℕ) (later : Checked) (j : ℕ) → j < n → ok j ≡ false → ((i : ℕ) → i < j → ok i ≡ true)
      → for_each ok why n later ≡ Err (why j)
  each_lowest n later j h t below = from_lowest n 0 later j (omega arith) (omega arith) t (λ i a b. below i b)

-- what a search for a ring at fault comes to: the ring is named, or the answer is left to the rules after it
abbrev pub named : (ℕ → Refusal) → Checked → Option ℕ → Checked
named why later (Some k) = Err (why k)
named why later None = later

module _ (at_fault : ℕ → Bool) (sizes : List ℕ) where
  none_at_fault : position at_fault sizes ≡ None → (j : ℕ) → j < length sizes → at_fault (size_at sizes j) ≡ false
  none_at_fault e j h = go (ltb (position_or_len at_fault sizes) (length sizes)) refl
    where
      go : (t : Bool) → ltb (position_or_len at_fault sizes) (length sizes) ≡ t → at_fault (size_at sizes j) ≡ false
      go true w = let d : None ≡ Some (position_or_len at_fault sizes) = sym e ∙ rw w refl in cc
      go false w = not-true _ (prefix_len_passes (λ (n : ℕ). not (at_fault n)) sizes j 0 (le_trans h (ltb-false _ _ w)))

  -- a rule on a ring's size is a search for the first size at fault
  pub each_named : (why : ℕ → Refusal) (later : Checked)
      → for_each (λ k. not (at_fault (size_at sizes k))) why (length sizes) later ≡ named why later (position at_fault sizes)
  each_named why later = go (position at_fault sizes) refl
    where
      go : (found : Option ℕ) → position at_fault sizes ≡ found
          → for_each (λ k. not (at_fault (size_at sizes k))) why (length sizes) later ≡ named why later found
      go (Some k) e =
          let p = position-Some at_fault sizes k 0 e in
          each_lowest _ why (length sizes) later k p.0 (ap not p.1) (λ i l. ap not (p.2 i l))
      go None e = each_all _ why (length sizes) later (λ j h. ap not (none_at_fault e j h))
