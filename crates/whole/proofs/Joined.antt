-- A whole size with its sign, held to the ends of an i64, is the floor and the rounded value. Assumes nothing.
use Rattle.std.proofs.Common.{◌≡◌, ℕ, zero, suc, ◌+◌, ◌-◌, ◌*◌, ◌/◌, ◌^◌, ◌<◌, ◌≤◌, min, true, false, ltb, ℤ, pos, neg_ℤ, sym, refl, ap, ◌∙◌, subst, true≢false, add-one, arith, lit≤, w64, to_z, of_z, ltb-false, le-ltb, lt-ltb}
use native.Mathlib.Nat.{zero-div, add-div_right}
use lib.Ieee.{Float, nan, inf, fin, up, down, neg, lt, to_unsigned}
use lib.Ieee.Fits.{down_pos}
use Rattle.floats.specs.Values.{abs_of}
use Rattle.whole.specs.Held.{signed, clamp, first, last}
use Rattle.whole.specs.Floor.{floor_of, FloorTo, floor_to, floor_within}
use Rattle.whole.specs.Round.{round_of, RoundTo, round_to}
use Rattle.whole.specs.Inner.Sizes.{near_size, ceiling_size}
use Rattle.whole.proofs.Floors.{floor_to_meets}
use Rattle.whole.proofs.Rounds.{round_to_meets}
use Rattle.whole.proofs.Width.{clamp_plus, clamp_minus, held_back}
use Rattle.whole.proofs.Within.{nought, MAX, whole_part}
use Rattle.whole.proofs.Ceilings.{exact}

abbrev Held63 : ℤ → ℤ
Held63 z = clamp (first 63) (last 63) z

-- what is held anyway may be held before, at no nearer end
plus_twice : (n top : ℕ) → 2 ^ 63 - 1 ≤ top → Held63 (pos (min n top)) ≡ Held63 (pos n)
plus_twice n top h = clamp_plus 63 (min n top) ∙ ap pos same ∙ sym (clamp_plus 63 n)
  where
    same : min (min n top) (2 ^ 63 - 1) ≡ min n (2 ^ 63 - 1)
    same = omega arith

minus_twice : (n top : ℕ) → 2 ^ 63 ≤ top → Held63 (neg_ℤ (pos (min n top))) ≡ Held63 (neg_ℤ (pos n))
minus_twice n top h = clamp_minus 63 (min n top) ∙ ap (λ (z : ℕ). neg_ℤ (pos z)) same ∙ sym (clamp_minus 63 n)
  where
    same : min (min n top) (2 ^ 63) ≡ min n (2 ^ 63)
    same = omega arith

-- the tests with zero
not_minus : (a d : ℕ) → ltb (a * 1) (0 * 1 * d) ≡ false
not_minus a d = le-ltb (a * 1) (0 * 1 * d) (omega arith)

-- ---- the floor of -a / d is less its ceiling
floor_neg : (a d : ℕ) → 0 < d → floor_of (neg_ℤ (pos a)) d ≡ neg_ℤ (pos ((a + (d - 1)) / d))
floor_neg zero d D = rw (zero-div d, exact 0 d 0 D (omega arith))
floor_neg (suc a) d D = ap (λ (z : ℕ). neg_ℤ (pos z)) (sym up_is)
  where
    whole : suc a + (d - 1) ≡ a + d
    whole = omega (arith, D)

    up_is : (suc a + (d - 1)) / d ≡ suc (a / d)
    up_is = ap (λ (z : ℕ). z / d) whole ∙ add-div_right a D ∙ add-one (a / d)

floor_below : (x : Float) → lt x nought ≡ true → Held63 (signed true (ceiling_size (neg x))) ≡ floor_to 63 x
unfolding lt neg ceiling_size floor_to
floor_below nan h = absurd (true≢false (sym h))
floor_below (inf true) h = refl
floor_below (inf false) h = absurd (true≢false (sym h))
floor_below (fin false m e) h = absurd (true≢false (sym h ∙ not_minus (m * up e) (down e)))
floor_below (fin true m e) h =
    minus_twice ((m * up e + (down e - 1)) / down e) (2 ^ 64 - 1) (lit≤ tt) ∙ ap Held63 (sym (floor_neg (m * up e) (down e) (down_pos e)))

plus_floor : (x : Float) → lt x nought ≡ false → Held63 (pos (to_unsigned 64 x)) ≡ floor_to 63 x
unfolding lt to_unsigned floor_to
plus_floor nan h = refl
plus_floor (inf true) h = absurd (true≢false h)
plus_floor (inf false) h = refl
plus_floor (fin false m e) h = plus_twice (m * up e / down e) (2 ^ 64 - 1) (lit≤ tt)
plus_floor (fin true m e) h = rw (none (m * up e) (down e) h) (ap (λ (z : ℕ). Held63 (pos z)) (sym (zero-div (down e))))
  where
    none : (a d : ℕ) → ltb 0 (a * 1 + 0 * 1 * d) ≡ false → a ≡ 0
    none a d h = omega (arith, ltb-false 0 (a * 1 + 0 * 1 * d) h)

floor_above : (x : Float) → lt x nought ≡ false → Held63 (signed false (floor_within MAX x)) ≡ floor_to 63 x
floor_above x h = ap (λ (z : ℕ). Held63 (pos z)) (whole_part x (floor_within MAX x) refl) ∙ plus_floor x h

-- ---- the nearest, by its size
round_neg : (a d : ℕ) → Held63 (signed (ltb 0 (a * 1 + 0 * 1 * d)) (min ((2 * a + d) / (2 * d)) (2 ^ 63))) ≡ Held63 (round_of (neg_ℤ (pos a)) d)
round_neg zero d = rw (le-ltb 0 (0 * 1 + 0 * 1 * d) (omega arith)) (plus_twice ((2 * 0 + d) / (2 * d)) (2 ^ 63) (lit≤ tt))
round_neg (suc a) d = rw (lt-ltb 0 (suc a * 1 + 0 * 1 * d) (omega arith)) (minus_twice ((2 * suc a + d) / (2 * d)) (2 ^ 63) (lit≤ tt))

round_all : (x : Float) → Held63 (signed (lt x nought) (near_size (abs_of x))) ≡ round_to 63 x
unfolding lt abs_of near_size round_to
round_all nan = refl
round_all (inf true) = refl
round_all (inf false) = refl
round_all (fin true m e) = round_neg (m * up e) (down e)
round_all (fin false m e) = rw (not_minus (m * up e) (down e)) (plus_twice ((2 * (m * up e) + down e) / (2 * down e)) (2 ^ 63) (lit≤ tt))

-- ---- what `floor` and `round` promise, of the result r that `with_sign` gives, as the machine reads it back
abbrev Read : ℤ → ℤ
Read r = to_z w64 (of_z w64 r)

abbrev Floored : Float → ℤ → Type 0
Floored x z = FloorTo 63 x z × (z ≡ floor_to 63 x)

abbrev Rounded : Float → ℤ → Type 0
Rounded x z = RoundTo 63 x z × (z ≡ round_to 63 x)

module _ (x : Float) (r : ℤ) where
  floored : (z : ℤ) → z ≡ floor_to 63 x → Floored x z
  floored z e = (subst (FloorTo 63 x) (sym e) (floor_to_meets 63 x), e)

  pub floor_minus : (n : ℕ) → lt x nought ≡ true → n ≡ ceiling_size (neg x) → r ≡ Held63 (signed true n) → Floored x (Read r)
  floor_minus n h k e = floored (Read r) (held_back r (signed true n) e ∙ e ∙ ap (λ (z : ℕ). Held63 (signed true z)) k ∙ floor_below x h)

  pub floor_plus : (n : ℕ) → lt x nought ≡ false → n ≡ floor_within MAX x → r ≡ Held63 (signed false n) → Floored x (Read r)
  floor_plus n h k e = floored (Read r) (held_back r (signed false n) e ∙ e ∙ ap (λ (z : ℕ). Held63 (signed false z)) k ∙ floor_above x h)

  pub rounded : (a : Float) (n : ℕ) → a ≡ abs_of x → n ≡ near_size a → r ≡ Held63 (signed (lt x nought) n) → Rounded x (Read r)
  rounded a n h k e =
      let w : Read r ≡ round_to 63 x = held_back r (signed (lt x nought) n) e ∙ e ∙ ap (λ (z : ℕ). Held63 (signed (lt x nought) z)) (k ∙ ap near_size h) ∙ round_all x in
      (subst (RoundTo 63 x) (sym w) (round_to_meets 63 x), w)
