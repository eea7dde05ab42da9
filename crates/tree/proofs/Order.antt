-- A segment that goes to a quadrant lies in the quadrant's box, so where a box misses a height no segment below it holds it. Assumes nothing.
use Prim.Native.Nat.{ℕ, zero, suc, ◌+◌, ◌-◌, ◌*◌, ◌/◌, ◌%◌, ◌^◌, ◌≤◌, ◌<◌, compare}
use mathlib.Core.Path.{◌≡◌, refl, sym, subst}
use mathlib.Core.Bool.{Bool, true, false, cond, not, ◌||◌, true≢false}
use mathlib.Core.Logic.{⊎_elim}
use native.Mathlib.Omega.{arith}
use lib.Dec.{T, ltb}
use borrow.Author.Tests.{eqb-true}
use Rattle.room.proofs.Cases.{lt_or}
use lib.IntN.{ℤ, pos, negsuc}
use lib.Ieee.{Float, inf, Format, binary64, prec, emax, low as low_of, odd, units, size, nearest, round, of_int, lt, le, is_nan}
use Rattle.floats.specs.Values.{lesser_of, greater_of}
use Rattle.floats.proofs.Values.{lesser_le, le_greater, lesser_either, greater_either, between}
use Rattle.floats.proofs.Order.{lt_le, lt_not_le, le_refl, le_trans, lt_le_trans, le_lt_trans}
use Rattle.boxes.specs.declared.Rect.{Rect}
use Rattle.boxes.specs.Segments.{box_of}
use Rattle.boxes.specs.Quads.{quadrant, quad_bounds, mid_x, mid_y}
use Rattle.rings.specs.Ring.{spot_at, side_at, holds_height}
use Rattle.tree.specs.Tree.{goes_to, choice, least, greatest, ring_box}
use Rattle.tree.specs.Search.{meets_height}

-- a test that holds, or does not
not-true : (b : Bool) → (T b → ⊥) → b ≡ false
not-true true f = absurd (f tt)
not-true false f = refl

said : {b : Bool} → b ≡ true → T b
said e = rw e tt

-- ---- the height range of a segment's box
abbrev low : (ℕ → Float) → ℕ → Float
low ring i = (box_of (side_at ring i)).min.y

abbrev high : (ℕ → Float) → ℕ → Float
high ring i = (box_of (side_at ring i)).max.y

-- the segment's heights lie in the box's
abbrev pub Inside : (ℕ → Float) → Rect → ℕ → Type 0
Inside ring box i = (T (lt (low ring i) box.min.y) → ⊥) × (T (lt box.max.y (high ring i)) → ⊥)

-- a box that misses a height holds no segment that holds it
pub missed : (ring : ℕ → Float) (box : Rect) (y : Float) (i : ℕ) → meets_height box y ≡ false → Inside ring box i → holds_height (side_at ring i) y ≡ false
missed ring box y i m inside = not-true (holds_height (side_at ring i) y) (λ h. go (between _ _ y h) (lt y box.min.y) (lt box.max.y y) refl refl m)
  where
    go : T (le (low ring i) y) × T (le y (high ring i)) → (a b : Bool) → lt y box.min.y ≡ a → lt box.max.y y ≡ b → not (a || b) ≡ false → ⊥
    go s true b p q r = inside.0 (le_lt_trans (low ring i) y box.min.y s.0 (said p))
    go s false true p q r = inside.1 (lt_le_trans box.max.y y (high ring i) (said q) s.1)
    go s false false p q r = true≢false r

-- ---- quadrants
north_of_lem : (w e s n : Bool) (q : ℕ) → q ≤ 1 → goes_to q (quadrant w e s n) ≡ true → n ≡ true
north_of_lem true e true n q l h = absurd (omega (arith, eqb-true 2 q h))
north_of_lem true e false true q l h = refl
north_of_lem true e false false q l h = absurd (true≢false (sym h))
north_of_lem false true true n q l h = absurd (omega (arith, eqb-true 3 q h))
north_of_lem false true false true q l h = refl
north_of_lem false true false false q l h = absurd (true≢false (sym h))
north_of_lem false false s n q l h = absurd (true≢false (sym h))

south_of_lem : (w e s n : Bool) (q : ℕ) → 2 ≤ q → goes_to q (quadrant w e s n) ≡ true → (s ≡ true) × (q < 4)
south_of_lem true e true n q l h = (refl, omega (arith, eqb-true 2 q h))
south_of_lem true e false true q l h = absurd (omega (arith, eqb-true 0 q h))
south_of_lem true e false false q l h = absurd (true≢false (sym h))
south_of_lem false true true n q l h = (refl, omega (arith, eqb-true 3 q h))
south_of_lem false true false true q l h = absurd (omega (arith, eqb-true 1 q h))
south_of_lem false true false false q l h = absurd (true≢false (sym h))
south_of_lem false false s n q l h = absurd (true≢false (sym h))

not_lt_said : (b : Bool) → not b ≡ true → T b → ⊥
not_lt_said true e t = true≢false (sym e)
not_lt_said false e t = t

-- a segment that goes to a quadrant lies in the quadrant's box
module _ (ring : ℕ → Float) (box : Rect) (i : ℕ) where
  abbrev seg : Rect
  seg = box_of (side_at ring i)

  north : (q : ℕ) → q ≤ 1 → goes_to q (choice ring box i) ≡ true → T (lt (low ring i) (mid_y box)) → ⊥
  north q l h =
      not_lt_said (lt (low ring i) (mid_y box))
      (north_of_lem (lt seg.max.x (mid_x box)) (not (lt seg.min.x (mid_x box))) (lt seg.max.y (mid_y box)) (not (lt seg.min.y (mid_y box))) q l h)

  south : (q : ℕ) → 2 ≤ q → goes_to q (choice ring box i) ≡ true → (lt (high ring i) (mid_y box) ≡ true) × (q < 4)
  south q l h = south_of_lem (lt seg.max.x (mid_x box)) (not (lt seg.min.x (mid_x box))) (lt seg.max.y (mid_y box)) (not (lt seg.min.y (mid_y box))) q l h

  under : (q : ℕ) → 2 ≤ q → goes_to q (choice ring box i) ≡ true → T (lt (mid_y box) (high ring i)) → ⊥
  under q l h t = lt_not_le (high ring i) (mid_y box) (said (south q l h).0) (lt_le (mid_y box) (high ring i) t)

  pub inside_quad : (q : ℕ) → goes_to q (choice ring box i) ≡ true → Inside ring box i → Inside ring (quad_bounds box q) i
  inside_quad zero h p = (north 0 (omega arith) h, p.1)
  inside_quad (suc zero) h p = (north 1 (omega arith) h, p.1)
  inside_quad (suc (suc zero)) h p = (p.0, under 2 (omega arith) h)
  inside_quad (suc (suc (suc zero))) h p = (p.0, under 3 (omega arith) h)
  inside_quad (suc (suc (suc (suc q)))) h p = absurd (omega (arith, (south (suc (suc (suc (suc q)))) (omega arith) h).1))

-- ---- a whole number is no NaN
odd_plain : (d : ℕ) (s : Bool) (q k l : ℕ) → is_nan (odd d s q k l) ≡ false
unfolding odd is_nan
odd_plain d s zero k l = refl
odd_plain d s (suc q) k l = refl

units_plain : (f : Format) (s : Bool) (q k : ℕ) → is_nan (units f s q k) ≡ false
unfolding units is_nan
units_plain f s q k = go (ltb (q * 2 ^ k) (2 ^ (low_of f + suc (emax f))))
  where
    go : (b : Bool) → is_nan (cond b (odd (suc (prec f)) s q k (low_of f)) (inf s)) ≡ false
    go true = odd_plain (suc (prec f)) s q k (low_of f)
    go false = refl

round_plain : (f : Format) (s : Bool) (num den : ℕ) → is_nan (round f s num den) ≡ false
unfolding round
round_plain f s num den =
    let n = num * 2 ^ low_of f in
    let k = size (n / den) - prec f in
    let u = den * 2 ^ k in
    units_plain f s (nearest (n / u) (compare (n % u * 2) u)) k

pub whole_plain : (z : ℤ) → is_nan (of_int binary64 z) ≡ false
unfolding of_int
whole_plain (pos n) = round_plain binary64 false n 1
whole_plain (negsuc n) = round_plain binary64 true (suc n) 1

-- ---- the ring's box
module _ (f : ℕ → Float) (top : ℕ) (plain : (k : ℕ) → k ≤ top → is_nan (f k) ≡ false) where
  least_plain : (n : ℕ) → n ≤ top → is_nan (least f n) ≡ false
  unfolding least
  least_plain zero u = plain 0 (omega arith)
  least_plain (suc n) u = lesser_either (λ z. is_nan z ≡ false) (least f n) (f (suc n)) (least_plain n (omega arith)) (plain (suc n) u)

  least_le : (n k : ℕ) → n ≤ top → k ≤ n → T (le (least f n) (f k))
  unfolding least
  least_le zero k u h = let e : k ≡ 0 = omega arith in rw e (le_refl (f 0) (plain 0 (omega arith)))
  least_le (suc n) k u h =
      ⊎_elim (λ l. le_trans _ _ _ under.0 (least_le n k (omega arith) (omega arith))) (λ l. let e : k ≡ suc n = omega arith in rw e under.1) (lt_or k (suc n))
    where
      under : T (le (lesser_of (least f n) (f (suc n))) (least f n)) × T (le (lesser_of (least f n) (f (suc n))) (f (suc n)))
      under = lesser_le (least f n) (f (suc n)) (least_plain n (omega arith)) (plain (suc n) u)

  greatest_plain : (n : ℕ) → n ≤ top → is_nan (greatest f n) ≡ false
  unfolding greatest
  greatest_plain zero u = plain 0 (omega arith)
  greatest_plain (suc n) u = greater_either (λ z. is_nan z ≡ false) (greatest f n) (f (suc n)) (greatest_plain n (omega arith)) (plain (suc n) u)

  le_greatest : (n k : ℕ) → n ≤ top → k ≤ n → T (le (f k) (greatest f n))
  unfolding greatest
  le_greatest zero k u h = let e : k ≡ 0 = omega arith in rw e (le_refl (f 0) (plain 0 (omega arith)))
  le_greatest (suc n) k u h =
      ⊎_elim (λ l. le_trans _ _ _ (le_greatest n k (omega arith) (omega arith)) over.0) (λ l. let e : k ≡ suc n = omega arith in rw e over.1) (lt_or k (suc n))
    where
      over : T (le (greatest f n) (greater_of (greatest f n) (f (suc n)))) × T (le (f (suc n)) (greater_of (greatest f n) (f (suc n))))
      over = le_greater (greatest f n) (f (suc n)) (greatest_plain n (omega arith)) (plain (suc n) u)

-- no height of the ring's points is a NaN
abbrev pub Numbered : (ℕ → Float) → ℕ → Type 0
Numbered ring points = (k : ℕ) → k ≤ points - 1 → is_nan (spot_at ring k).y ≡ false

-- each segment of a ring lies in the ring's box
pub inside_ring : (ring : ℕ → Float) (points i : ℕ) → Numbered ring points → i + 1 < points → Inside ring (ring_box ring points) i
unfolding ring_box
inside_ring ring points i plain h = (
  λ t. lt_not_le (low ring i) (least f n) t (lesser_either (λ z. T (le (least f n) z)) _ _ (under i (omega arith)) (subst (λ (k : ℕ). T (le (least f n) (ring k))) next (under (i + 1) (omega arith)))),
  λ t. lt_not_le (greatest f n) (high ring i) t (greater_either (λ z. T (le z (greatest f n))) _ _ (over i (omega arith)) (subst (λ (k : ℕ). T (le (ring k) (greatest f n))) next (over (i + 1) (omega arith)))),
)
  where
    f : ℕ → Float
    f k = (spot_at ring k).y

    n : ℕ
    n = points - 1

    next : (i + 1) * 2 + 1 ≡ i * 2 + 3
    next = omega arith

    under : (k : ℕ) → k ≤ points - 1 → T (le (least (λ j. (spot_at ring j).y) (points - 1)) (spot_at ring k).y)
    under k l = least_le (λ j. (spot_at ring j).y) (points - 1) plain (points - 1) k (omega arith) l

    over : (k : ℕ) → k ≤ points - 1 → T (le (spot_at ring k).y (greatest (λ j. (spot_at ring j).y) (points - 1)))
    over k l = le_greatest (λ j. (spot_at ring j).y) (points - 1) plain (points - 1) k (omega arith) l
