-- A slice whose end was lent, and came back; and what stands behind a front that was written. Assumes nothing.
use Prim.Native.Nat.{ℕ, ◌-◌, ◌≤◌}
use mathlib.Core.Path.{◌≡◌, ap, ◌∙◌}
use mathlib.Core.List.{List, ◌++◌, append-nil}
use native.Mathlib.Omega.{arith}
use lib.ListN.{length, take, drop, length-append, length-drop}
use lib.Seq.{take_all, drop-length, take_at, drop_at, length-take-le}
use borrow.Rule.Slice.PartMut.{put_mid, Post-is}

-- from a place to the end
pub part_end : (l : List ℕ) (a : ℕ) → take (length l - a) (drop a l) ≡ drop a l
part_end l a = take_all (length l - a) (drop a l) (omega (arith, length-drop a l))

pub put_end : (l y : List ℕ) (a : ℕ) → a ≤ length l → put_mid a (length l - a) l y ≡ take a l ++ y
put_end l y a h =
    ap (λ (p : List ℕ). take a l ++ (y ++ p)) (Post-is a (length l) l h ∙ drop-length l) ∙ ap (λ (p : List ℕ). take a l ++ p) (append-nil y)

-- the part behind a front, while the front is other than it was
module _ (l p : List ℕ) (n : ℕ) (h : n ≤ length l) (e : length p ≡ length (take n l)) where
  pub front_length : length p ≡ n
  front_length = e ∙ length-take-le n l h

  pub part_behind : take (length (p ++ drop n l) - n) (drop n (p ++ drop n l)) ≡ drop n l
  part_behind = part_end (p ++ drop n l) n ∙ drop_at p (drop n l) n front_length

  pub put_behind : (y : List ℕ) → put_mid n (length (p ++ drop n l) - n) (p ++ drop n l) y ≡ p ++ y
  put_behind y =
      put_end (p ++ drop n l) y n (omega (arith, front_length, length-append p (drop n l)))
      ∙ ap (λ (z : List ℕ). z ++ y) (take_at p (drop n l) n front_length)
