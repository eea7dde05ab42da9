-- 01: "Entries in all equals the sum, over segments, of stripes crossed." Assumes nothing.
use Prim.Native.Nat.{ℕ, zero, suc, ◌+◌, ◌-◌, ◌^◌, ◌<◌, min}
use mathlib.Core.Path.{◌≡◌, refl, sym, ap, ap₂, ◌∙◌}
use mathlib.Core.List.{[]}
use mathlib.Core.Bool.{Bool, true, false, ◌&&◌}
use mathlib.Core.Logic.{inl, inr}
use native.Mathlib.Omega.{arith}
use native.Mathlib.Numerals.{add-one}
use lib.ListN.{length, length-append}
use lib.Dec.{leb}
use lib.Ieee.{Float}
use borrow.Author.Tests.{le-leb, lt-leb}
use Rattle.room.specs.Numbers.{cons_if, up_to, bit}
use Rattle.room.proofs.Cases.{lt_or}
use Rattle.room.proofs.UpTo.{up_to_done}
use Rattle.stripes_place.proofs.Mono.{stripe_below}
use Rattle.stripes_index.specs.Index.{part_of, entries_of, high_end, first_stripe, last_stripe, crosses}
use Rattle.stripes_index.specs.Inner.States.{sum_to}
use Rattle.stripes_index.proofs.Turns.{part_next}
use Rattle.stripes_index.proofs.Starts.{sum_ext, sum_starts}

-- how often a test holds below n
unfoldable pub times : (ℕ → Bool) → ℕ → ℕ
times t n = sum_to (λ i. bit (t i)) n

once : (b : Bool) (i : ℕ) → length (cons_if b i []) ≡ bit b
once true i = refl
once false i = refl

kept_length : (t : ℕ → Bool) (n : ℕ) → length (up_to t n 0) ≡ times t n
unfolding times sum_to
kept_length t zero = ap length (up_to_done t 0 0 (omega arith))
kept_length t (suc n) =
    rw (← add-one n)
    (ap length (part_next t n) ∙ length-append (up_to t n 0) (cons_if (t n) n []) ∙ ap₂ ◌+◌ (kept_length t n) (once (t n) n))

sum_zero : (m : ℕ) → sum_to (λ s. 0) m ≡ 0
unfolding sum_to
sum_zero zero = refl
sum_zero (suc m) = omega (arith, sum_zero m)

sum_add : (a b : ℕ → ℕ) (m : ℕ) → sum_to (λ s. a s + b s) m ≡ sum_to a m + sum_to b m
unfolding sum_to
sum_add a b zero = refl
sum_add a b (suc m) = omega (arith, sum_add a b m)

-- counted by stripes, or by segments
pub both_ways : (cross : ℕ → ℕ → Bool) (n m : ℕ) → sum_to (λ s. times (cross s) n) m ≡ sum_to (λ i. times (λ s. cross s i) m) n
unfolding times sum_to
both_ways cross zero m = sum_zero m
both_ways cross (suc n) m =
    sum_add (λ s. times (cross s) n) (λ s. bit (cross s n)) m ∙ ap (λ (k : ℕ). k + times (λ s. cross s n) m) (both_ways cross n m)

-- the stripes from a to b
between : (a b m : ℕ) → times (λ s. leb a s && leb s b) m ≡ min m (suc b) - a
unfolding times sum_to
between a b zero = omega arith
between a b (suc m) =
    elim (lt_or m a) [
      | inl l ↦ rw (lt-leb a m l) (omega (arith, between a b m))
      | inr g ↦
          elim (lt_or b m) [
            | inl l ↦ rw (le-leb a m g, lt-leb m b l) (omega (arith, between a b m))
            | inr h ↦ rw (le-leb a m g, le-leb m b h) (omega (arith, between a b m))
          ]
    ]

module _ (ring : ℕ → Float) (least height : Float) (n m : ℕ) (some : 0 < m) (few : m < 2 ^ 64) where
  crossed : (i : ℕ) → times (λ s. crosses ring least height m s i) m ≡ suc (last_stripe ring least height m i) - first_stripe ring least height m i
  crossed i =
      between (first_stripe ring least height m i) (last_stripe ring least height m i) m
      ∙ omega (arith, stripe_below (high_end ring i) least height m some few)

  -- "the sum, over segments, of stripes crossed": from the first that it crosses to the last
  pub entries_sum : entries_of (crosses ring least height m) n m ≡ sum_to (λ i. suc (last_stripe ring least height m i) - first_stripe ring least height m i) n
  entries_sum =
      let cross = crosses ring least height m in
      sym (sum_starts cross n m)
      ∙ sum_ext (λ s. length (part_of cross n s)) (λ s. times (cross s) n) m (λ s l. kept_length (cross s) n)
      ∙ both_ways cross n m
      ∙ sum_ext (λ i. times (λ s. cross s i) m) (λ i. suc (last_stripe ring least height m i) - first_stripe ring least height m i) n (λ i l. crossed i)
