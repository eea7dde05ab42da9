-- std's size and test of a float are this crate's; and of two numbers, the lesser is at most each and the greater at least each, each is one of the two, and
-- what lies between the two lies between them. Assumes nothing.
use mathlib.Core.Path.{◌≡◌, refl, sym, ap, ◌∙◌, subst}
use mathlib.Core.Logic.{inl, inr}
use mathlib.Core.Bool.{Bool, true, false, cond, not, ◌&&◌, ◌||◌, or-false}
use lib.Dec.{T}
use borrow.Author.Tests.{not-false}
use lib.Ieee.{Float, nan, inf, fin, is_nan, lt, le, eq, ne}
use lib.Ieee.Scale.{finite}
use Rattle.std.specs.Float.{float_is_finite, float_with_sign}
use lib.Ieee.Bits.{is_true}
use lib.Ieee.Fits.{and_i, and_l, and_r}
use Rattle.floats.specs.Values.{abs_of, lesser_of, greater_of}
use Rattle.floats.proofs.Parts.{or_split, or_left, or_right}
use Rattle.floats.proofs.Order.{le_refl, le_trans, le_left, le_right, le_antisym, lt_le, lt_not_le, lt_is_not_le}

-- std's words for the two
pub finite_std : (x : Float) → float_is_finite x ≡ finite x
unfolding float_is_finite
finite_std nan = refl
finite_std (inf s) = refl
finite_std (fin s m e) = refl

pub abs_std : (x : Float) → float_with_sign false x ≡ abs_of x
unfolding float_with_sign abs_of
abs_std nan = refl
abs_std (inf s) = refl
abs_std (fin s m e) = refl

-- ---- the lesser and the greater of two numbers
equal_self : (x : Float) → is_nan x ≡ false → ne x x ≡ false
unfolding ne
equal_self x p = ap not (is_true (eq x x) (le_antisym x x (le_refl x p) (le_refl x p)))

module _ (x y : Float) (p : is_nan x ≡ false) (q : is_nan y ≡ false) where
  not_below_lem : lt y x ≡ false → T (le x y)
  not_below_lem e = subst T (sym (not-false (le x y) (sym (lt_is_not_le y x q p) ∙ e))) tt

  pub lesser_le : T (le (lesser_of x y) x) × T (le (lesser_of x y) y)
  unfolding lesser_of
  lesser_le = rw (equal_self x p, or-false (lt y x)) (go (lt y x) refl)
    where
      go : (b : Bool) → lt y x ≡ b → T (le (cond b y x) x) × T (le (cond b y x) y)
      go true e = (lt_le y x (subst T (sym e) tt), le_refl y q)
      go false e = (le_refl x p, not_below_lem e)

  pub le_greater : T (le x (greater_of x y)) × T (le y (greater_of x y))
  unfolding greater_of
  le_greater = rw (equal_self x p, or-false (lt x y)) (go (lt x y) refl)
    where
      go : (b : Bool) → lt x y ≡ b → T (le x (cond b y x)) × T (le y (cond b y x))
      go true e = (lt_le x y (subst T (sym e) tt), le_refl y q)
      go false e = (le_refl x p, subst T (sym (not-false (le y x) (sym (lt_is_not_le x y p q) ∙ e))) tt)

-- each is one of the two
module _ (P : Float → Type 0) (x y : Float) (p : P x) (q : P y) where
  pub lesser_either : P (lesser_of x y)
  unfolding lesser_of
  lesser_either = go (lt y x || ne x x)
    where
      go : (b : Bool) → P (cond b y x)
      go true = q
      go false = p

  pub greater_either : P (greater_of x y)
  unfolding greater_of
  greater_either = go (lt x y || ne x x)
    where
      go : (b : Bool) → P (cond b y x)
      go true = q
      go false = p

-- what is in the closed range of two ends, whichever is less, lies from the lesser to the greater
pub between : (a b y : Float) → T (le a y && le y b || le b y && le y a) → T (le (lesser_of a b) y) × T (le y (greater_of a b))
between a b y h = elim (or_split (le a y && le y b) (le b y && le y a) h) [
  | inl u ↦
      let s = and_l (le a y) (le y b) u in let t = and_r (le a y) (le y b) u in
      let p = le_left a y s in let q = le_right y b t in
      (le_trans (lesser_of a b) a y (lesser_le a b p q).0 s, le_trans y b (greater_of a b) t (le_greater a b p q).1)
  | inr u ↦
      let s = and_l (le b y) (le y a) u in let t = and_r (le b y) (le y a) u in
      let p = le_right y a t in let q = le_left b y s in
      (le_trans (lesser_of a b) b y (lesser_le a b p q).1 s, le_trans y a (greater_of a b) t (le_greater a b p q).0)
]

-- and only that does
pub between_back : (a b y : Float) → is_nan a ≡ false → is_nan b ≡ false → T (le (lesser_of a b) y) → T (le y (greater_of a b)) → T (le a y && le y b || le b y && le y a)
unfolding lesser_of greater_of
between_back a b y p q h k =
    go (lt b a) (lt a b) refl refl (rw (equal_self a p, or-false (lt b a)) at h) (rw (equal_self a p, or-false (lt a b)) at k)
  where
    go : (s t : Bool) → lt b a ≡ s → lt a b ≡ t → T (le (cond s b a) y) → T (le y (cond t b a)) → T (le a y && le y b || le b y && le y a)
    go true true e f h k = absurd (lt_not_le a b (subst T (sym f) tt) (lt_le b a (subst T (sym e) tt)))
    go true false e f h k = or_right (le a y && le y b) (le b y && le y a) (and_i (le b y) (le y a) h k)
    go false true e f h k = or_left (le a y && le y b) (le b y && le y a) (and_i (le a y) (le y b) h k)
    go false false e f h k = or_left (le a y && le y b) (le b y && le y a) (and_i (le a y) (le y b) h (le_trans y a b k (not_below_lem a b p q e)))
