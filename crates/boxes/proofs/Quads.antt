-- 01's words on quadrants and the source's order of tests agree where no NaN is met; a segment's box that lies in a box lies in the quadrant that is
-- chosen for it; and what is a coordinate stays one. Assumes nothing.
use Rattle.std.specs.Prelude.{Some, None}
use mathlib.Core.Path.{◌≡◌, refl, sym, ap, ◌∙◌, subst}
use Prim.Native.Nat.{ℕ, zero, suc}
use native.Mathlib.Omega.{arith}
use mathlib.Core.Bool.{Bool, true, false, not}
use lib.Dec.{T}
use lib.Ieee.{Float, is_nan, lt, le}
use Rattle.floats.proofs.Order.{le_right, lt_is_not_le, lt_le}
use Rattle.boxes.specs.declared.Rect.{Rect}
use Rattle.boxes.specs.Quads.{mid_x, mid_y, quadrant, chosen, chosen_of_numbers, quad_bounds}
use Rattle.boxes.proofs.Sizes.{Coordinate, coordinate_number, middle_coordinate}

-- ---- the two readings
pub not_below_lem : (x y : Float) → is_nan x ≡ false → is_nan y ≡ false → not (lt x y) ≡ le y x
not_below_lem x y p q = ap not (lt_is_not_le x y p q) ∙ twice (le y x)
  where
    twice : (b : Bool) → not (not b) ≡ b
    twice true = refl
    twice false = refl

pub as_written : (b r : Rect) → is_nan (mid_x b) ≡ false → is_nan (mid_y b) ≡ false → is_nan r.min.x ≡ false → is_nan r.min.y ≡ false → chosen b r ≡ chosen_of_numbers b r
as_written b r p q u v = rw (not_below_lem r.min.x (mid_x b) u p, not_below_lem r.min.y (mid_y b) v q)

-- ---- a box lies in another
pub record Lies (r b : Rect) : Type 0 where
  pub west : T (le b.min.x r.min.x)
  pub east : T (le r.max.x b.max.x)
  pub south : T (le b.min.y r.min.y)
  pub north : T (le r.max.y b.max.y)

-- a box of coordinates
pub record Placed (b : Rect) : Type 0 where
  pub left : Coordinate b.min.x
  pub low : Coordinate b.min.y
  pub right : Coordinate b.max.x
  pub high : Coordinate b.max.y

pub quad_placed : (b : Rect) → Placed b → (q : ℕ) → Placed (quad_bounds b q)
quad_placed b p q = go q
  where
    x : Coordinate (mid_x b)
    x = middle_coordinate b.min.x b.max.x p.left p.right

    y : Coordinate (mid_y b)
    y = middle_coordinate b.min.y b.max.y p.low p.high

    go : (q : ℕ) → Placed (quad_bounds b q)
    go zero = record { left = p.left; low = y; right = x; high = p.high }
    go (suc zero) = record { left = x; low = y; right = p.right; high = p.high }
    go (suc (suc zero)) = record { left = p.left; low = p.low; right = x; high = y }
    go (suc (suc (suc zero))) = record { left = x; low = p.low; right = p.right; high = y }
    go (suc (suc (suc (suc q)))) = p

-- ---- where a segment's box goes
module _ (b r : Rect) (p : Placed b) (l : Lies r b) where
  mid_x_lem : is_nan (mid_x b) ≡ false
  mid_x_lem = (coordinate_number (mid_x b) (middle_coordinate b.min.x b.max.x p.left p.right)).1

  mid_y_lem : is_nan (mid_y b) ≡ false
  mid_y_lem = (coordinate_number (mid_y b) (middle_coordinate b.min.y b.max.y p.low p.high)).1

  west_of_lem : lt r.max.x (mid_x b) ≡ true → T (le r.max.x (mid_x b))
  west_of_lem e = lt_le r.max.x (mid_x b) (subst T (sym e) tt)

  east_of_lem : not (lt r.min.x (mid_x b)) ≡ true → T (le (mid_x b) r.min.x)
  east_of_lem e = subst T (sym (sym (not_below_lem r.min.x (mid_x b) (le_right b.min.x r.min.x l.west) mid_x_lem) ∙ e)) tt

  south_of_lem : lt r.max.y (mid_y b) ≡ true → T (le r.max.y (mid_y b))
  south_of_lem e = lt_le r.max.y (mid_y b) (subst T (sym e) tt)

  north_of_lem : not (lt r.min.y (mid_y b)) ≡ true → T (le (mid_y b) r.min.y)
  north_of_lem e = subst T (sym (sym (not_below_lem r.min.y (mid_y b) (le_right b.min.y r.min.y l.south) mid_y_lem) ∙ e)) tt

  pub lies_in_quad : (q : ℕ) → chosen b r ≡ Some q → Lies r (quad_bounds b q)
  lies_in_quad q h = go (lt r.max.x (mid_x b)) (not (lt r.min.x (mid_x b))) (lt r.max.y (mid_y b)) (not (lt r.min.y (mid_y b))) refl refl refl refl h
    where
      at : (k : ℕ) → Some k ≡ Some q → Lies r (quad_bounds b k) → Lies r (quad_bounds b q)
      at k e d = let same : k ≡ q = cc in subst (λ (z : ℕ). Lies r (quad_bounds b z)) same d

      never : None ≡ Some q → Lies r (quad_bounds b q)
      never e = let z : ◌≡◌ {A = ℕ} 0 1 = cc in absurd (omega arith)

      go : (w e s n : Bool) → lt r.max.x (mid_x b) ≡ w → not (lt r.min.x (mid_x b)) ≡ e → lt r.max.y (mid_y b) ≡ s → not (lt r.min.y (mid_y b)) ≡ n
          → quadrant w e s n ≡ Some q → Lies r (quad_bounds b q)
      go true e true n i j k m h = at 2 h (record { west = l.west; east = west_of_lem i; south = l.south; north = south_of_lem k })
      go true e false true i j k m h = at 0 h (record { west = l.west; east = west_of_lem i; south = north_of_lem m; north = l.north })
      go true e false false i j k m h = never h
      go false true true n i j k m h = at 3 h (record { west = east_of_lem j; east = l.east; south = l.south; north = south_of_lem k })
      go false true false true i j k m h = at 1 h (record { west = east_of_lem j; east = l.east; south = north_of_lem m; north = l.north })
      go false true false false i j k m h = never h
      go false false s n i j k m h = never h
