-- What it means that two boxes meet: some point lies in both. Assumes nothing.
use mathlib.Core.Path.{◌≡◌, refl, sym, ap, ◌∙◌, subst}
use mathlib.Core.Logic.{inl, inr}
use mathlib.Core.Bool.{Bool, true, false, not, ◌&&◌, ◌||◌}
use lib.Dec.{T}
use lib.Ieee.{Float, is_nan, lt, le}
use lib.Ieee.Fits.{and_i, and_l, and_r}
use Rattle.floats.proofs.Order.{le_trans, le_refl, le_total, lt_not_le, le_left, le_right}
use Rattle.boxes.specs.declared.Point.{Point}
use Rattle.boxes.specs.declared.Rect.{Rect}
use Rattle.boxes.specs.Boxes.{holds, meets}
use Rattle.boxes.proofs.Quads.{not_below_lem}

-- A box with no NaN, its least corner at most its greatest. A comparison with a NaN is false, so the two comparisons say both.
abbrev pub Ordered : Rect → Type 0
Ordered b = T (le b.min.x b.max.x) × T (le b.min.y b.max.y)

-- some point lies in both
abbrev pub Share : Rect → Rect → Type 0
Share b c = (p : Point) × T (holds b p) × T (holds c p)

not_or : (s t : Bool) → T (not (s || t)) → (s ≡ false) × (t ≡ false)
not_or false false h = (refl, refl)
not_or true t h = absurd h
not_or false true h = absurd h

neither : (s t : Bool) → s ≡ false → t ≡ false → T (not (s || t))
neither s t p q = rw (p, q) tt

-- ---- one axis: the ranges a to b and c to d
module _ (a b c d : Float) where
  -- ranges of which neither lies strictly above the other have a number in common
  common : T (le a b) → T (le c d) → lt d a ≡ false → lt b c ≡ false → (t : Float) × T (le a t && le t b) × T (le c t && le t d)
  common p q above below = elim (le_total a c left right) [
    | inl h ↦ (c, and_i (le a c) (le c b) h c_b, and_i (le c c) (le c d) (le_refl c right) q)
    | inr h ↦ (a, and_i (le a a) (le a b) (le_refl a left) p, and_i (le c a) (le a d) h a_d)
  ]
    where
      left : is_nan a ≡ false
      left = le_left a b p

      right : is_nan c ≡ false
      right = le_left c d q

      a_d : T (le a d)
      a_d = subst T (ap not (sym above) ∙ not_below_lem d a (le_right c d q) left) tt

      c_b : T (le c b)
      c_b = subst T (ap not (sym below) ∙ not_below_lem b c (le_right a b p) right) tt

-- a number of both holds them together
not_apart : (a d t : Float) → T (le a t) → T (le t d) → lt d a ≡ false
not_apart a d t p q = go (lt d a) refl
  where
    go : (s : Bool) → lt d a ≡ s → s ≡ false
    go true e = absurd (lt_not_le d a (subst T (sym e) tt) (le_trans a t d p q))
    go false e = refl

-- what holds a point, side by side
module _ (b : Rect) (p : Point) where
  held : T (le b.min.x p.x && le p.x b.max.x) → T (le b.min.y p.y && le p.y b.max.y) → T (holds b p)
  held h k =
      and_i (le b.min.x p.x && le p.x b.max.x && le b.min.y p.y) (le p.y b.max.y)
      (and_i (le b.min.x p.x && le p.x b.max.x) (le b.min.y p.y) h (and_l (le b.min.y p.y) (le p.y b.max.y) k))
      (and_r (le b.min.y p.y) (le p.y b.max.y) k)

  sides : T (holds b p) → T (le b.min.x p.x) × T (le p.x b.max.x) × T (le b.min.y p.y) × T (le p.y b.max.y)
  sides h =
      let three = and_l (le b.min.x p.x && le p.x b.max.x && le b.min.y p.y) (le p.y b.max.y) h in
      let two = and_l (le b.min.x p.x && le p.x b.max.x) (le b.min.y p.y) three in (
        and_l (le b.min.x p.x) (le p.x b.max.x) two,
        and_r (le b.min.x p.x) (le p.x b.max.x) two,
        and_r (le b.min.x p.x && le p.x b.max.x) (le b.min.y p.y) three,
        and_r (le b.min.x p.x && le p.x b.max.x && le b.min.y p.y) (le p.y b.max.y) h,
      )

-- ---- both axes
module _ (b c : Rect) where
  pub meets_shared : Ordered b → Ordered c → T (meets b c) → Share b c
  meets_shared p q m =
      let y = not_or _ _ (and_l (not (lt c.max.y b.min.y || lt b.max.y c.min.y)) (not (lt c.max.x b.min.x || lt b.max.x c.min.x)) m) in
      let x = not_or _ _ (and_r (not (lt c.max.y b.min.y || lt b.max.y c.min.y)) (not (lt c.max.x b.min.x || lt b.max.x c.min.x)) m) in
      let u = common b.min.x b.max.x c.min.x c.max.x p.0 q.0 x.0 x.1 in
      let v = common b.min.y b.max.y c.min.y c.max.y p.1 q.1 y.0 y.1 in
      let t : Point = record { x = u.0; y = v.0 } in
      (t, held b t u.1 v.1, held c t u.2 v.2)

  -- a point in both is enough, whatever the boxes
  pub shared_meets : Share b c → T (meets b c)
  shared_meets (p, h, k) =
      let i = sides b p h in
      let j = sides c p k in
      and_i (not (lt c.max.y b.min.y || lt b.max.y c.min.y)) (not (lt c.max.x b.min.x || lt b.max.x c.min.x))
      (neither _ _ (not_apart b.min.y c.max.y p.y i.2 j.3) (not_apart c.min.y b.max.y p.y j.2 i.3))
      (neither _ _ (not_apart b.min.x c.max.x p.x i.0 j.1) (not_apart c.min.x b.max.x p.x j.0 i.1))
