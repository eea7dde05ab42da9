-- Each segment that arrives at a node is its own or goes to one quadrant, so the tree holds each exactly once. Assumes nothing.
use Rattle.std.specs.Prelude.{Option}
use Prim.Native.Nat.{ℕ, zero, suc, ◌+◌, ◌*◌, ◌<◌}
use mathlib.Core.Path.{◌≡◌, refl, ap}
use mathlib.Core.List.{List, [], ◌∷◌}
use mathlib.Core.Bool.{Bool, true, false, cond, not}
use native.Mathlib.Omega.{arith}
use lib.Dec.{leb}
use lib.ListN.{length}
use lib.Ieee.{Float, lt}
use borrow.Author.Tests.{leb-false}
use Rattle.room.specs.Numbers.{cons_if, bit, count}
use Rattle.room.proofs.Count.{count_append}
use Rattle.boxes.specs.declared.Rect.{Rect}
use Rattle.boxes.specs.Quads.{quadrant, quad_bounds, mid_x, mid_y}
use Rattle.boxes.specs.Segments.{box_of}
use Rattle.rings.specs.Ring.{side_at}
use Rattle.tree.specs.Tree.{max_items, Tree, leaf, split, those, goes_to, is_stayer, choice, stayers, goers, unless_empty, grown, in_order}
use Rattle.tree.specs.All.{All}
use Rattle.tree.proofs.Lists.{all_append, all_kept, count_those}

-- of the five ways exactly one is taken
one_way : (w e s n : Bool)
    → bit (is_stayer (quadrant w e s n)) + (bit (goes_to 0 (quadrant w e s n)) + bit (goes_to 1 (quadrant w e s n)) + bit (goes_to 2 (quadrant w e s n)) + bit (goes_to 3 (quadrant w e s n))) ≡ 1
one_way true e true n = refl
one_way true e false true = refl
one_way true e false false = refl
one_way false true true n = refl
one_way false true false true = refl
one_way false true false false = refl
one_way false false s n = refl

more : (t : ℕ → Bool) (x : ℕ) (xs : List ℕ) → length (those t (x ∷ xs)) ≡ bit (t x) + length (those t xs)
unfolding those
more t x xs = go (t x)
  where
    go : (b : Bool) → length (cons_if b x (those t xs)) ≡ bit b + length (those t xs)
    go true = omega arith
    go false = omega arith

-- what a node shares out
module _ (ring : ℕ → Float) (box : Rect) where
  abbrev way : (Option ℕ → Bool) → ℕ → Bool
  way t i = t (choice ring box i)

  one_choice : (i : ℕ) → bit (way is_stayer i) + (bit (way (goes_to 0) i) + bit (way (goes_to 1) i) + bit (way (goes_to 2) i) + bit (way (goes_to 3) i)) ≡ 1
  one_choice i =
      let r = box_of (side_at ring i) in
      one_way (lt r.max.x (mid_x box)) (not (lt r.min.x (mid_x box))) (lt r.max.y (mid_y box)) (not (lt r.min.y (mid_y box)))

  pub count_shares : (k : ℕ) (xs : List ℕ)
      → count k (stayers ring box xs) + (count k (goers ring box 0 xs) + count k (goers ring box 1 xs) + count k (goers ring box 2 xs) + count k (goers ring box 3 xs)) ≡ count k xs
  count_shares k xs =
      rw (count_those (way is_stayer) k xs, count_those (way (goes_to 0)) k xs, count_those (way (goes_to 1)) k xs, count_those (way (goes_to 2)) k xs, count_those (way (goes_to 3)) k xs)
      (omega (arith, ap (λ (z : ℕ). z * count k xs) (one_choice k)))

  pub length_shares : (xs : List ℕ)
      → length (stayers ring box xs) + (length (goers ring box 0 xs) + length (goers ring box 1 xs) + length (goers ring box 2 xs) + length (goers ring box 3 xs)) ≡ length xs
  unfolding those
  length_shares [] = refl
  length_shares (x ∷ xs) =
      rw (more (way is_stayer) x xs, more (way (goes_to 0)) x xs, more (way (goes_to 1)) x xs, more (way (goes_to 2)) x xs, more (way (goes_to 3)) x xs)
      (omega (arith, one_choice x, length_shares xs))

-- quadrant q of a node that splits
abbrev pub kid_of : (ℕ → Float) → ℕ → Rect → List ℕ → ℕ → Tree
kid_of ring left box xs q = unless_empty (goers ring box q xs) (grown ring left (quad_bounds box q) (goers ring box q xs))

-- what is said of the leaf and of the split is said of what grows
pub grown_cases : (P : Tree → Type 0) (ring : ℕ → Float) (left : ℕ) (box : Rect) (xs : List ℕ)
    → P (leaf xs)
    → (max_items < length xs → P (split (stayers ring box xs) (kid_of ring left box xs)))
    → P (grown ring (suc left) box xs)
unfolding grown
grown_cases P ring left box xs a b = go (leb (length xs) max_items) refl
  where
    go : (z : Bool) → leb (length xs) max_items ≡ z
        → P (cond z (leaf xs) (split (stayers ring box xs) (kid_of ring left box xs)))
    go true e = a
    go false e = b (omega (arith, leb-false (length xs) max_items e))

-- ---- the tree holds each segment that arrives, as often as it arrives
kid_count : (k : ℕ) (ys : List ℕ) (t : Tree) → count k (in_order t) ≡ count k ys → count k (in_order (unless_empty ys t)) ≡ count k ys
unfolding in_order
kid_count k [] t h = refl
kid_count k (y ∷ ys) t h = h

count_split : (k : ℕ) (ring : ℕ → Float) (box : Rect) (xs : List ℕ) (f : ℕ → Tree) → ((q : ℕ) → count k (in_order (f q)) ≡ count k (goers ring box q xs))
    → count k (in_order (split (stayers ring box xs) f)) ≡ count k xs
unfolding in_order
count_split k ring box xs f h = simp count_append (omega (arith, h 0, h 1, h 2, h 3, count_shares ring box k xs))

pub count_grown : (k : ℕ) (ring : ℕ → Float) (left : ℕ) (box : Rect) (xs : List ℕ) → count k (in_order (grown ring left box xs)) ≡ count k xs
unfolding in_order grown
count_grown k ring zero box xs = refl
count_grown k ring (suc left) box xs =
    grown_cases (λ t. count k (in_order t) ≡ count k xs) ring left box xs refl
    (λ h. count_split k ring box xs (kid_of ring left box xs) (λ q. kid_count k (goers ring box q xs) (grown ring left (quad_bounds box q) (goers ring box q xs)) (count_grown k ring left (quad_bounds box q) (goers ring box q xs))))

-- ---- what holds of each segment that arrives holds of each that the tree holds
kid_all : (P : ℕ → Type 0) (ys : List ℕ) (t : Tree) → All P (in_order t) → All P (in_order (unless_empty ys t))
unfolding in_order All
kid_all P [] t h = tt
kid_all P (y ∷ ys) t h = h

all_split : (P : ℕ → Type 0) (xs : List ℕ) (f : ℕ → Tree) → All P xs → ((q : ℕ) → All P (in_order (f q))) → All P (in_order (split xs f))
unfolding in_order
all_split P xs f a h = all_append P _ _ a (all_append P _ _ (h 0) (all_append P _ _ (h 1) (all_append P _ _ (h 2) (h 3))))

pub all_grown : (P : ℕ → Type 0) (ring : ℕ → Float) (left : ℕ) (box : Rect) (xs : List ℕ) → All P xs → All P (in_order (grown ring left box xs))
unfolding in_order grown
all_grown P ring zero box xs a = a
all_grown P ring (suc left) box xs a =
    grown_cases (λ t. All P (in_order t)) ring left box xs a
    (λ h. all_split P (stayers ring box xs) (kid_of ring left box xs) (all_kept P (way ring box is_stayer) xs a)
    (λ q. kid_all P (goers ring box q xs) (grown ring left (quad_bounds box q) (goers ring box q xs)) (all_grown P ring left (quad_bounds box q) (goers ring box q xs) (all_kept P (way ring box (goes_to q)) xs a))))
