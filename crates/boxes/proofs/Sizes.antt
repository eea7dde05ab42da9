-- The middle of two floats of size at most 2 ^ 31 is one too, so the boxes of quadrants of quadrants stay numbers. Assumes nothing.
use mathlib.Core.Path.{◌≡◌, refl, subst}
use Prim.Native.Nat.{ℕ, suc, ◌+◌, ◌-◌, ◌*◌, ◌%◌, ◌^◌, ◌≤◌, ◌<◌}
use native.Mathlib.Nat.{le_trans, mul-one, mul-pos, mul-le-mul_right, zero-lt-suc}
use native.Mathlib.Omega.{arith}
use mathlib.Core.Bool.{Bool, true, false, ◌&&◌, beq, cond}
use lib.IntN.{ℤ, pos, negsuc, nat_abs}
use lib.Signed.{mag}
use lib.Dec.{T, ltb, leb, eqb, ltb→lt, leb→le}
use lib.Pow.{pow_mono}
use lib.Ieee.{Float, nan, inf, fin, binary64, up, down, round, sum, add, sub, neg, div, of_bits, of_int, fits, is_nan}
use lib.Ieee.Fits.{down_pos, and_l, and_r, div-fits, of_int-fits}
use lib.Ieee.Exact.{HasValue}
use lib.Ieee.Scale.{finite}
use Rattle.floats.proofs.Rise.{Under, round_under, div_under}
use Rattle.floats.proofs.Ranks.{Number}
use Rattle.floats.proofs.Ints.{minus, whole_value, i32_small}
use Rattle.boxes.specs.Quads.{middle}

-- ---- what the format says of its values
pub in_format : (s : Bool) (m : ℕ) (e : ℤ) → T (fits binary64 (fin s (suc m) e)) → (suc m < 2 ^ 53) × (down e ≤ 2 ^ 1074) × (suc m * up e < 2 ^ 1024 * down e)
unfolding fits
in_format s m e h =
    let odd = eqb (suc m % 2) 1 in
    let short = ltb (suc m) (2 ^ 53) in
    let fine = leb (down e) (2 ^ 1074) in
    let low = ltb (suc m * up e) (2 ^ 1024 * down e) in
    let k = and_l (odd && short && fine) low h in (
      ltb→lt (suc m) (2 ^ 53) (and_r odd short (and_l (odd && short) fine k)),
      leb→le (down e) (2 ^ 1074) (and_r (odd && short) fine k),
      ltb→lt (suc m * up e) (2 ^ 1024 * down e) (and_r (odd && short && fine) low h),
    )

-- ---- the size of a sum is at most the sum of the sizes, rounded
pub sum_under : (s t : Bool) (a b c n : ℕ) → 0 < c → a + b ≤ n * c → Under (sum binary64 s a t b c) (round binary64 false n 1)
unfolding sum
sum_under s t a b c n C h = go (beq s t) (ltb a b)
  where
    over : (σ : Bool) (k : ℕ) → k ≤ a + b → Under (round binary64 σ k c) (round binary64 false n 1)
    over σ k l = round_under binary64 σ false k c n 1 C (zero-lt-suc 0) (rw (mul-one k) (le_trans l h))

    go : (x y : Bool) → Under (cond x (round binary64 s (a + b) c) (cond y (round binary64 t (b - a) c) (round binary64 (s && ltb b a) (a - b) c))) (round binary64 false n 1)
    go true y = over s (a + b) (omega arith)
    go false true = over t (b - a) (omega arith)
    go false false = over (s && ltb b a) (a - b) (omega arith)

pub under_finite : (x y : Float) → Under x y → T (finite y) → T (finite x)
under_finite nan y h k = h
under_finite (inf s) nan h k = h
under_finite (inf s) (inf t) h k = k
under_finite (inf s) (fin t n d) h k = h
under_finite (fin s m e) y h k = tt

-- ---- a coordinate: its size is at most 2 ^ 400, far over that of an i32, and so small that no sum of two is infinite
abbrev pub Coordinate : Float → Type 0
Coordinate x = T (fits binary64 x) × Under x (fin false 1 (pos 400))

pub coordinate_number : (x : Float) → Coordinate x → Number x
unfolding is_nan
coordinate_number nan c = absurd c.1
coordinate_number (inf s) c = absurd c.1
coordinate_number (fin s m e) c = (c.0, refl)

pub stored_coordinate : (z : ℤ) → mag z < 2 ^ 31 → Coordinate (of_int binary64 z)
stored_coordinate z h = (of_int-fits binary64 z, from (of_int binary64 z) (whole_value z (i32_small z h)))
  where
    size : (z : ℤ) → mag z < 2 ^ 31 → nat_abs z ≤ 2 ^ 31
    size (pos n) h = omega arith
    size (negsuc n) h = omega arith

    from : (x : Float) → HasValue x (minus z) (nat_abs z) 1 → Under x (fin false 1 (pos 400))
    from nan v = v
    from (inf s) v = v
    from (fin s m e) v = most (m * up e) (nat_abs z) (down e) (2 ^ 400) v.1 (le_trans (size z h) (pow_mono {i = 31} {j = 400} (omega arith)))
      where
        most : (x n e l : ℕ) → x * 1 ≡ n * e → n ≤ l → x * 1 ≤ l * e
        most x n e l p q = omega (arith, mul-le-mul_right e q)

add_under : (x y : Float) → Under x (fin false 1 (pos 400)) → Under y (fin false 1 (pos 400)) → Under (add binary64 x y) (round binary64 false (2 ^ 401) 1)
unfolding add
add_under nan y p q = p
add_under (inf s) y p q = absurd p
add_under (fin s m e) nan p q = absurd q
add_under (fin s m e) (inf t) p q = absurd q
add_under (fin s m e) (fin t n d) p q = sum_under s t (m * up e * down d) (n * up d * down e) (down e * down d) (2 ^ 401) (mul-pos (down_pos e) (down_pos d)) (both (m * up e) (down e) (n * up d) (down d) (2 ^ 400) p q)
  where
    both : (x e y d l : ℕ) → x * 1 ≤ l * e → y * 1 ≤ l * d → x * d + y * e ≤ (2 * l) * (e * d)
    both x e y d l p q = omega (arith, mul-le-mul_right d p, mul-le-mul_right e q)

pub two : of_bits binary64 0x4000_0000_0000_0000 ≡ fin false 1 (pos 1)
unfolding of_bits
two = refl

half : div binary64 (round binary64 false (2 ^ 401) 1) (fin false 1 (pos 1)) ≡ fin false 1 (pos 400)
unfolding div round
half = refl

pub middle_coordinate : (x y : Float) → Coordinate x → Coordinate y → Coordinate (middle x y)
middle_coordinate x y p q = (
  div-fits binary64 (add binary64 x y) (of_bits binary64 0x4000_0000_0000_0000),
  rw two (subst (λ (z : Float). Under (div binary64 (add binary64 x y) (fin false 1 (pos 1))) z) half (div_under binary64 (add binary64 x y) (round binary64 false (2 ^ 401) 1) false 0 (pos 1) (add_under x y p.1 q.1))),
)

-- the difference of two coordinates is finite
neg_under : (x y : Float) → Under x y → Under (neg x) y
unfolding neg
neg_under nan y h = h
neg_under (inf s) nan h = h
neg_under (inf s) (inf t) h = h
neg_under (inf s) (fin t n d) h = h
neg_under (fin s m e) nan h = h
neg_under (fin s m e) (inf t) h = h
neg_under (fin s m e) (fin t n d) h = h

wide_finite : T (finite (round binary64 false (2 ^ 401) 1))
unfolding round
wide_finite = tt

pub difference_finite : (x y : Float) → Coordinate x → Coordinate y → T (finite (sub binary64 x y))
unfolding sub
difference_finite x y p q = under_finite (add binary64 x (neg y)) (round binary64 false (2 ^ 401) 1) (add_under x (neg y) p.1 (neg_under y (fin false 1 (pos 400)) q.1)) wide_finite
