-- A ring's least y and height hold every segment between them, whatever kind its numbers are: they need only be coordinates. Assumes nothing.
use mathlib.Core.Path.{◌≡◌, sym, subst}
use mathlib.Core.Logic.{inl, inr}
use Prim.Native.Nat.{ℕ, zero, suc, ◌+◌, ◌*◌, ◌≤◌, ◌<◌}
use native.Mathlib.Omega.{arith}
use native.Mathlib.Nat.{zero-lt-suc, zero-mul}
use mathlib.Core.Bool.{true, false, true≢false}
use lib.Dec.{T, lt→ltb}
use lib.Ieee.{Float, nan, inf, fin, is_nan, le, eq, of_bits}
use lib.Ieee.Scale.{finite}
use Rattle.room.proofs.Cases.{lt_or}
use Rattle.floats.proofs.Order.{le_trans, le_refl}
use Rattle.floats.proofs.Values.{lesser_le, le_greater, lesser_either, greater_either, between}
use Rattle.floats.proofs.Rise.{Nonneg, sub_nonneg}
use Rattle.boxes.proofs.Sizes.{Coordinate, coordinate_number, difference_finite}
use Rattle.rings.specs.Ring.{side_at, holds_height}
use Rattle.stripes_place.proofs.Mono.{Tall}
use Rattle.stripes_index.specs.Index.{low_end, high_end, least_y, greatest_y, height_y}

no_nan : (x : Float) → Coordinate x → is_nan x ≡ false
no_nan x c = (coordinate_number x c).1

is_finite : (x : Float) → Coordinate x → T (finite x)
is_finite nan c = c.1
is_finite (inf s) c = c.1
is_finite (fin s m e) c = tt

-- a finite float not below 0 is 0, or above it
tall_of : (h : Float) → Nonneg h → T (finite h) → Tall h
unfolding eq of_bits
tall_of nan p f = absurd p
tall_of (inf s) p f = absurd f
tall_of (fin false zero e) p f = inl (simp (zero-mul))
tall_of (fin true zero e) p f = inl (simp (zero-mul))
tall_of (fin false (suc m) e) p f = inr (lt→ltb 0 (suc m) (zero-lt-suc m))
tall_of (fin true (suc m) e) (inl p) f = absurd (true≢false p)
tall_of (fin true (suc m) e) (inr p) f = absurd (omega arith)

-- what every number of the ring has, its ends, least and greatest y have
module _ (P : Float → Type 0) (ring : ℕ → Float) (n : ℕ) (all : (k : ℕ) → k < n * 2 + 2 → P (ring k)) where
  low_all : (i : ℕ) → i < n → P (low_end ring i)
  low_all i h = lesser_either P _ _ (all (i * 2 + 1) (omega arith)) (all (i * 2 + 3) (omega arith))

  high_all : (i : ℕ) → i < n → P (high_end ring i)
  high_all i h = greater_either P _ _ (all (i * 2 + 1) (omega arith)) (all (i * 2 + 3) (omega arith))

  pub least_all : (k : ℕ) → k ≤ n → P (least_y ring k)
  unfolding least_y
  least_all zero h = all (0 * 2 + 1) (omega arith)
  least_all (suc k) h = lesser_either P (least_y ring k) (low_end ring k) (least_all k (omega arith)) (low_all k (omega arith))

  pub greatest_all : (k : ℕ) → k ≤ n → P (greatest_y ring k)
  unfolding greatest_y
  greatest_all zero h = all (0 * 2 + 1) (omega arith)
  greatest_all (suc k) h = greater_either P (greatest_y ring k) (high_end ring k) (greatest_all k (omega arith)) (high_all k (omega arith))

module _ (ring : ℕ → Float) (n : ℕ) (nums : (k : ℕ) → k < n * 2 + 2 → Coordinate (ring k)) where
  -- one segment more
  least_steps : (k : ℕ) → k < n → T (le (least_y ring (suc k)) (least_y ring k)) × T (le (least_y ring (suc k)) (low_end ring k))
  unfolding least_y
  least_steps k h = lesser_le (least_y ring k) (low_end ring k) (no_nan _ (least_all Coordinate ring n nums k (omega arith))) (no_nan _ (low_all Coordinate ring n nums k h))

  greatest_steps : (k : ℕ) → k < n → T (le (greatest_y ring k) (greatest_y ring (suc k))) × T (le (high_end ring k) (greatest_y ring (suc k)))
  unfolding greatest_y
  greatest_steps k h = le_greater (greatest_y ring k) (high_end ring k) (no_nan _ (greatest_all Coordinate ring n nums k (omega arith))) (no_nan _ (high_all Coordinate ring n nums k h))

  least_below : (i k : ℕ) → i < k → k ≤ n → T (le (least_y ring k) (low_end ring i))
  least_below i zero h b = absurd (omega arith)
  least_below i (suc k) h b =
      elim (lt_or i k) [
        | inl l ↦ le_trans (least_y ring (suc k)) (least_y ring k) (low_end ring i) (least_steps k (omega arith)).0 (least_below i k l (omega arith))
        | inr g ↦ let e : i ≡ k = omega arith in rw e (least_steps k (omega arith)).1
      ]

  greatest_above : (i k : ℕ) → i < k → k ≤ n → T (le (high_end ring i) (greatest_y ring k))
  greatest_above i zero h b = absurd (omega arith)
  greatest_above i (suc k) h b =
      elim (lt_or i k) [
        | inl l ↦ le_trans (high_end ring i) (greatest_y ring k) (greatest_y ring (suc k)) (greatest_above i k l (omega arith)) (greatest_steps k (omega arith)).0
        | inr g ↦ let e : i ≡ k = omega arith in rw e (greatest_steps k (omega arith)).1
      ]

  pub ordered : (k : ℕ) → k ≤ n → T (le (least_y ring k) (greatest_y ring k))
  ordered zero h = start
    where
      start : T (le (least_y ring 0) (greatest_y ring 0))
      start = unfold least_y in unfold greatest_y in le_refl _ (no_nan _ (nums (0 * 2 + 1) (omega arith)))
  ordered (suc k) h =
      le_trans (least_y ring (suc k)) (least_y ring k) (greatest_y ring (suc k)) (least_steps k (omega arith)).0
      (le_trans (least_y ring k) (greatest_y ring k) (greatest_y ring (suc k)) (ordered k (omega arith)) (greatest_steps k (omega arith)).0)

  -- a segment's own range lies from its low end to its high end
  pub holds_between : (i : ℕ) (y : Float) → i < n → holds_height (side_at ring i) y ≡ true → T (le (low_end ring i) y) × T (le y (high_end ring i))
  holds_between i y h e = between (ring (i * 2 + 1)) (ring (i * 2 + 3)) y (subst T (sym e) tt)

  -- and within the ring's
  pub holds_within : (i : ℕ) (y : Float) → i < n → holds_height (side_at ring i) y ≡ true → T (le (least_y ring n) y) × T (le y (greatest_y ring n))
  holds_within i y h e =
      let r = holds_between i y h e in
      (le_trans (least_y ring n) (low_end ring i) y (least_below i n h (omega arith)) r.0, le_trans y (high_end ring i) (greatest_y ring n) r.1 (greatest_above i n h (omega arith)))

  pub least_finite : T (finite (least_y ring n))
  least_finite = is_finite (least_y ring n) (least_all Coordinate ring n nums n (omega arith))

  pub height_tall : Tall (height_y ring n)
  height_tall =
      let l = least_all Coordinate ring n nums n (omega arith) in
      let g = greatest_all Coordinate ring n nums n (omega arith) in
      tall_of (height_y ring n) (sub_nonneg (greatest_y ring n) (least_y ring n) (is_finite _ g) (is_finite _ l) (ordered n (omega arith))) (difference_finite (greatest_y ring n) (least_y ring n) g l)
