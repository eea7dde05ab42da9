-- Which boxes meet a height line. Assumes nothing.
use mathlib.Core.Path.{◌≡◌, refl, sym, ◌∙◌, subst}
use mathlib.Core.Bool.{Bool, true, false, not, ◌&&◌, ◌||◌, and-true}
use lib.Dec.{T}
use lib.Ieee.{Float, is_nan, lt, le}
use lib.Ieee.Fits.{and_i, and_l, and_r}
use lib.Ieee.Bits.{is_true}
use Rattle.floats.specs.Values.{lesser_of, greater_of}
use Rattle.floats.proofs.Order.{le_trans, lt_not_le, le_left, le_right}
use Rattle.floats.proofs.Values.{lesser_le, le_greater, between, between_back}
use Rattle.boxes.specs.declared.Rect.{Rect}
use Rattle.boxes.specs.Boxes.{meets}
use Rattle.boxes.specs.Quads.{box}
use Rattle.boxes.proofs.Quads.{Lies, not_below_lem}

-- the line at the height y, as wide as the box b
abbrev pub height_line : Rect → Float → Rect
height_line b y = box b.min.x y b.max.x y

not_above : (x y : Float) → T (le x y) → lt y x ≡ false
not_above x y h = go (lt y x) refl
  where
    go : (t : Bool) → lt y x ≡ t → t ≡ false
    go true e = absurd (lt_not_le y x (subst T (sym e) tt) h)
    go false e = refl

-- where a box c overlaps b in width, it meets the line exactly when its closed height range holds y
pub meets_line : (c b : Rect) (y : Float) → T (le c.min.x b.max.x) → T (le b.min.x c.max.x) → is_nan c.min.y ≡ false → is_nan c.max.y ≡ false → is_nan y ≡ false
    → meets c (height_line b y) ≡ (le c.min.y y && le y c.max.y)
meets_line c b y i j m n o =
    rw (not_above c.min.x b.max.x i, not_above b.min.x c.max.x j, and-true (not (lt y c.min.y || lt c.max.y y)), ← not_below_lem y c.min.y o m, ← not_below_lem c.max.y y n o)
    (apart (lt y c.min.y) (lt c.max.y y))
  where
    apart : (s t : Bool) → not (s || t) ≡ (not s && not t)
    apart true t = refl
    apart false t = refl

module _ (r b : Rect) (l : Lies r b) (w : T (le r.min.x r.max.x)) where
  -- a segment's box in b
  pub own_meets : (y : Float) → is_nan y ≡ false → meets r (height_line b y) ≡ (le r.min.y y && le y r.max.y)
  own_meets y o =
      meets_line r b y (le_trans r.min.x r.max.x b.max.x w l.east) (le_trans b.min.x r.min.x r.max.x l.west w)
      (le_right b.min.y r.min.y l.south) (le_left r.max.y b.max.y l.north) o

  -- and any box that it lies in
  pub around_meets : (c : Rect) → Lies r c → (y : Float) → T (le r.min.y y) → T (le y r.max.y) → meets c (height_line b y) ≡ true
  around_meets c k y s n =
      let low = le_trans c.min.y r.min.y y k.south s in
      let high = le_trans y r.max.y c.max.y n k.north in
      meets_line c b y (le_trans c.min.x r.min.x b.max.x k.west (le_trans r.min.x r.max.x b.max.x w l.east))
      (le_trans b.min.x r.max.x c.max.x (le_trans b.min.x r.min.x r.max.x l.west w) k.east) (le_left c.min.y y low) (le_right y c.max.y high) (le_right c.min.y y low)
      ∙ is_true (le c.min.y y && le y c.max.y) (and_i (le c.min.y y) (le y c.max.y) low high)

-- ---- a segment's box holds a height exactly when the closed range of the ends does
same : (a b : Bool) → (T a → T b) → (T b → T a) → a ≡ b
same true true p q = refl
same true false p q = absurd (p tt)
same false true p q = absurd (q tt)
same false false p q = refl

module _ (u v : Float) (p : is_nan u ≡ false) (q : is_nan v ≡ false) where
  pub lesser_below_greater : T (le (lesser_of u v) (greater_of u v))
  lesser_below_greater = le_trans (lesser_of u v) u (greater_of u v) (lesser_le u v p q).0 (le_greater u v p q).0

  pub range_is : (y : Float) → (le u y && le y v || le v y && le y u) ≡ (le (lesser_of u v) y && le y (greater_of u v))
  range_is y =
      same (le u y && le y v || le v y && le y u) (le (lesser_of u v) y && le y (greater_of u v))
      (λ t. let h = between u v y t in and_i (le (lesser_of u v) y) (le y (greater_of u v)) h.0 h.1)
      (λ t. between_back u v y p q (and_l (le (lesser_of u v) y) (le y (greater_of u v)) t) (and_r (le (lesser_of u v) y) (le y (greater_of u v)) t))
