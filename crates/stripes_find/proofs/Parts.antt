-- The part of a stripe, by the tests on the way to it, and what is then read. Assumes nothing.
use Rattle.std.specs.Prelude.{Ok, Err}
use Rattle.answers.specs.declared.Refusal.TheVariants.{Damaged}
use Rattle.answers.specs.declared.Refusal.{Refusal}
use mathlib.Core.Path.{◌≡◌, refl, sym, ap, ap₂}
use mathlib.Core.Bool.{Bool, true, false, cond}
use mathlib.Core.List.{List, []}
use Prim.Native.Nat.{ℕ, ◌+◌, ◌*◌, ◌/◌, ◌≤◌, ◌<◌}
use native.Mathlib.Omega.{arith}
use lib.ListN.{length, get_or}
use lib.Seq.{slice}
use lib.Dec.{ltb, eqb}
use lib.Ieee.{Float}
use borrow.Author.Tests.{eq-eqb, ne_eqb, lt-ltb, le-ltb, ltb-false}
use Rattle.stripes_place.specs.Stripe.{stripe_of}
use Rattle.stripes_find.specs.Search.{Reading, damaged_at, found_in, end_in, read_stripe}
use Rattle.stripes_find.specs.Inner.Part.{Part, part_at}

module _ (least height : Float) (stripes : List ℕ) (long : ℕ) (y : Float) where
  pub part_none : length stripes / 2 ≡ 0 → part_at least height stripes long y ≡ Err (Damaged 0)
  unfolding part_at
  part_none e = rw (eq-eqb (length stripes / 2) 0 e)

  module _ (s start count : ℕ) (some : length stripes / 2 ≡ 0 → ⊥) (is : s ≡ stripe_of y least height (length stripes / 2))
      (from : start ≡ get_or stripes (s * 2) 0) (many : count ≡ get_or stripes (s * 2 + 1) 0) where
    past_is : start + count ≡ get_or stripes (stripe_of y least height (length stripes / 2) * 2) 0 + get_or stripes (stripe_of y least height (length stripes / 2) * 2 + 1) 0
    past_is = rw (← is) (ap₂ ◌+◌ from many)

    pub part_past : long < start + count → part_at least height stripes long y ≡ Err (Damaged long)
    unfolding part_at
    part_past h = rw (ne_eqb (length stripes / 2) 0 some, ← past_is, lt-ltb long (start + count) h)

    pub part_run : start + count ≤ long → part_at least height stripes long y ≡ Ok (start, start + count)
    unfolding part_at
    part_run h = rw (ne_eqb (length stripes / 2) 0 some, ← past_is, le-ltb long (start + count) h) (ap (λ (k : ℕ). Ok (k, start + count)) (rw (← is) (sym from)))

-- ---- what is read
abbrev ran : ℕ → ℕ → Part
ran start past = Ok (start, past)

two_ways : {A B : Type 0} (P : A → B → Type 0) (e f : Bool) (a a' a'' : A) (b b' b'' : B) → P a b → P a' b' → (f ≡ false → P a'' b'')
    → P (cond e a (cond f a' a'')) (cond e b (cond f b' b''))
two_ways P true f a a' a'' b b' b'' p q r = p
two_ways P false true a a' a'' b b' b'' p q r = q
two_ways P false false a a' a'' b b' b'' p q r = r refl

module _ (n : ℕ) (meets : ℕ → Bool) (least height : Float) (stripes list : List ℕ) (y : Float) where
  ways : (P : Part → Reading → Type 0) → P (Err (Damaged 0)) (record { found = []; ending = damaged_at 0 })
      → P (Err (Damaged (length list))) (record { found = []; ending = damaged_at (length list) })
      → ((start past : ℕ) → start ≤ past → past ≤ length list
      → P (Ok (start, past)) (record { found = found_in n meets (slice start past list); ending = end_in n start (slice start past list) }))
      → P (part_at least height stripes (length list) y) (read_stripe n meets least height stripes list y)
  unfolding part_at read_stripe
  ways P a b c =
      let s = stripe_of y least height (length stripes / 2) in
      let start = get_or stripes (s * 2) 0 in
      let count = get_or stripes (s * 2 + 1) 0 in
      two_ways P (eqb (length stripes / 2) 0) (ltb (length list) (start + count)) _ _ _ _ _ _ a b
      (λ h. c start (start + count) (omega arith) (ltb-false (length list) (start + count) h))

  -- a refusal is damage, with its place
  pub read_broken : (why : Refusal) → part_at least height stripes (length list) y ≡ Err why
      → (p : ℕ) × (why ≡ Damaged p) × (read_stripe n meets least height stripes list y ≡ record { found = []; ending = damaged_at p })
  read_broken why =
      ways (λ part r. part ≡ Err why → (p : ℕ) × (why ≡ Damaged p) × (r ≡ record { found = []; ending = damaged_at p }))
      (λ e. (0, cc, refl))
      (λ e. (length list, cc, refl))
      (λ start past a b e. cc)

  pub read_run : (start past : ℕ) → part_at least height stripes (length list) y ≡ Ok (start, past)
      → (read_stripe n meets least height stripes list y ≡ record { found = found_in n meets (slice start past list); ending = end_in n start (slice start past list) })
      × (start ≤ past) × (past ≤ length list)
  read_run start past =
      ways
      (λ part r. part ≡ Ok (start, past)
      → (r ≡ record { found = found_in n meets (slice start past list); ending = end_in n start (slice start past list) }) × (start ≤ past) × (past ≤ length list))
      (λ e. cc)
      (λ e. cc)
      (λ a b h k e. (
        ap₂ (λ (u v : ℕ). record { found = found_in n meets (slice u v list); ending = end_in n u (slice u v list) }) (first a b e) (second a b e),
        omega (arith, first a b e, second a b e),
        omega (arith, second a b e),
      ))
    where
      pair : (a b : ℕ) → ran a b ≡ ran start past → ◌≡◌ {A = ℕ × ℕ} (a, b) (start, past)
      pair a b e = cc

      first : (a b : ℕ) → ran a b ≡ ran start past → a ≡ start
      first a b e = ap (λ (r : ℕ × ℕ). r.0) (pair a b e)

      second : (a b : ℕ) → ran a b ≡ ran start past → b ≡ past
      second a b e = ap (λ (r : ℕ × ℕ). r.1) (pair a b e)
