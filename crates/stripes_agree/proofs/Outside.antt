-- Of whole numbers the least y and the height make the greatest again, with no rounding: so no height between the least and the greatest is outside.
-- Assumes nothing.
use mathlib.Core.Path.{◌≡◌, refl, sym, ap, ◌∙◌, subst}
use mathlib.Core.List.{List}
use Prim.Native.Nat.{ℕ, ◌+◌, ◌*◌, ◌^◌, ◌≤◌, ◌<◌}
use native.Mathlib.Omega.{arith}
use mathlib.Core.Bool.{Bool, true, false, not, ◌&&◌, ◌||◌, cond}
use lib.ListN.{length, get_or}
use lib.IntN.{ℤ, pos, nat_abs}
use lib.Signed.{le_z, nat_abs-le}
use lib.Dec.{T, eqb}
use borrow.Author.Tests.{eqb-true}
use lib.Ieee.{Float, binary64, lt, le, eq, ne, of_int, of_bits}
use lib.Ieee.Bits.{is_true}
use lib.Ieee.Exact.{HasValue}
use Rattle.floats.proofs.Order.{le_antisym, lt_not_le}
use Rattle.floats.proofs.Ints.{value_eq, of_int_le}
use Rattle.boxes.proofs.Sizes.{Coordinate, stored_coordinate}
use Rattle.rings.specs.Ring.{wide}
use Rattle.rings.specs.I32s.{I32s}
use Rattle.stripes_index.specs.Index.{least_y, greatest_y, height_y}
use Rattle.stripes_index.proofs.Ends.{least_all, greatest_all, ordered}
use Rattle.stripes_find.specs.Search.{outside}
use Rattle.stripes_agree.proofs.Span.{Spanned, spanned}

-- a float that is an i32
abbrev Whole : Float → Type 0
Whole x = (z : ℤ) × (nat_abs z ≤ 2 ^ 31) × (x ≡ of_int binary64 z)

zero_value : HasValue (of_bits binary64 0) false 0 1
unfolding of_bits
zero_value = (refl, refl)

and-true : (b : Bool) → (b && true) ≡ b
and-true true = refl
and-true false = refl

not_lt : (x y : Float) → T (le y x) → lt x y ≡ false
not_lt x y h = go (lt x y) refl
  where
    go : (b : Bool) → lt x y ≡ b → lt x y ≡ false
    go true e = absurd (lt_not_le x y (subst T (sym e) tt) h)
    go false e = e

same_ne : (x y : Float) → T (le x y) → T (le y x) → ne x y ≡ false
unfolding ne
same_ne x y h k = ap not (is_true (eq x y) (le_antisym x y h k))

neither : (a b : Bool) → a ≡ false → b ≡ false → (a || b) ≡ false
neither a b h k = rw (h, k)

module _ (zs : List ℤ) (n : ℕ) (long : n * 2 + 2 ≤ length zs) (nums : I32s zs) (y : Float) where
  abbrev least : Float
  least = least_y (wide zs) n

  abbrev greatest : Float
  greatest = greatest_y (wide zs) n

  pub coordinates : (k : ℕ) → k < n * 2 + 2 → Coordinate (wide zs k)
  coordinates k h = stored_coordinate (get_or zs k (pos 0)) (nums k (omega arith))

  whole : (k : ℕ) → k < n * 2 + 2 → Whole (wide zs k)
  whole k h = (get_or zs k (pos 0), nat_abs-le (get_or zs k (pos 0)) (nums k (omega arith)), refl)

  span : Spanned least greatest
  span = go (least_all Whole (wide zs) n whole n (omega arith)) (greatest_all Whole (wide zs) n whole n (omega arith))
    where
      go : Whole least → Whole greatest → Spanned least greatest
      go (z, zs', e) (w, ws, f) =
          let o : T (le_z z w) = subst T (of_int_le z w (omega arith) (omega arith)) (subst (λ (x : Float). T (le x (of_int binary64 w))) e (subst (λ (x : Float). T (le least x)) f
          (ordered (wide zs) n coordinates n (omega arith)))) in
          rw (e, f) (spanned z w zs' ws o)

  -- whether the height is 0 is whether it has no size
  no_height_lem : eq (height_y (wide zs) n) (of_bits binary64 0) ≡ eqb span.tall 0
  no_height_lem = value_eq false span.tall false 0 (height_y (wide zs) n) (of_bits binary64 0) span.height zero_value ∙ and-true (eqb span.tall 0)

  pub not_out : T (le least y) → T (le y greatest) → outside y least (height_y (wide zs) n) ≡ false
  not_out low high = rw (no_height_lem, span.top) (go (eqb span.tall 0) refl)
    where
      go : (b : Bool) → eqb span.tall 0 ≡ b → cond b (ne y least) (lt y least || lt greatest y) ≡ false
      go true w = same_ne y least (subst (λ (x : Float). T (le y x)) (sym (span.flat (eqb-true span.tall 0 w))) high) low
      go false w = neither (lt y least) (lt greatest y) (not_lt y least low) (not_lt greatest y high)
