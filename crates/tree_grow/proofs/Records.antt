-- How many numbers the records of a tree are, and how many segments and nodes a grown tree has. Assumes nothing.
use Prim.Native.Nat.{ℕ, zero, suc, ◌+◌, ◌-◌, ◌*◌, ◌≤◌, ◌<◌}
use mathlib.Core.Path.{◌≡◌, refl, ap}
use mathlib.Core.List.{List, [], ◌∷◌}
use native.Mathlib.Omega.{arith}
use native.Mathlib.Numerals.{add-one}
use lib.ListN.{length, length-append}
use borrow.Author.Tests.{le-leb, lt-leb}
use lib.Ieee.{Float}
use Rattle.boxes.specs.declared.Rect.{Rect}
use Rattle.boxes.specs.Quads.{quad_bounds}
use Rattle.tree.specs.Tree.{max_items, Tree, empty, leaf, split, stayers, goers, unless_empty, grown, nodes, in_order}
use Rattle.tree.proofs.Share.{kid_of, grown_cases, length_shares}
use Rattle.tree_grow.specs.Inner.Records.{arriving, records}

-- six numbers a node
pub records_length : (t : Tree) → length (records t) ≡ 6 * nodes t
unfolding records nodes
records_length empty = refl
records_length (leaf xs) = refl
records_length (split xs f) =
    simp length-append (omega (arith, records_length (f 0), records_length (f 1), records_length (f 2), records_length (f 3)))

-- ---- the leaves and the splits of what grows
module _ (ring : ℕ → Float) (left : ℕ) (box : Rect) (xs : List ℕ) where
  pub grown_deep : left ≡ 0 → grown ring left box xs ≡ leaf xs
  unfolding grown
  grown_deep e = rw e

  pub grown_below : (left ≡ 0 → ⊥) → grown ring left box xs ≡ grown ring (left - 1 + 1) box xs
  grown_below h = let e : left ≡ left - 1 + 1 = omega arith in ap (λ (z : ℕ). grown ring z box xs) e

  pub grown_split : max_items < length xs → grown ring (left + 1) box xs ≡ split (stayers ring box xs) (kid_of ring left box xs)
  unfolding grown
  grown_split h = rw (add-one, lt-leb (length xs) max_items h)

pub grown_few : (ring : ℕ → Float) (left : ℕ) (box : Rect) (xs : List ℕ) → length xs ≤ max_items → grown ring left box xs ≡ leaf xs
unfolding grown
grown_few ring zero box xs h = refl
grown_few ring (suc left) box xs h = rw (le-leb (length xs) max_items h)

-- ---- a tree has as many segments as arrive
kid_length : (ys : List ℕ) (t : Tree) → length (in_order t) ≡ length ys → length (in_order (unless_empty ys t)) ≡ length ys
unfolding in_order
kid_length [] t h = refl
kid_length (y ∷ ys) t h = h

split_length : (ring : ℕ → Float) (box : Rect) (xs : List ℕ) (f : ℕ → Tree) → ((q : ℕ) → length (in_order (f q)) ≡ length (goers ring box q xs))
    → length (in_order (split (stayers ring box xs) f)) ≡ length xs
unfolding in_order
split_length ring box xs f h = simp length-append (omega (arith, h 0, h 1, h 2, h 3, length_shares ring box xs))

pub length_grown : (ring : ℕ → Float) (left : ℕ) (box : Rect) (xs : List ℕ) → length (in_order (grown ring left box xs)) ≡ length xs
unfolding in_order grown
length_grown ring zero box xs = refl
length_grown ring (suc left) box xs =
    grown_cases (λ t. length (in_order t) ≡ length xs) ring left box xs refl
    (λ h. split_length ring box xs (kid_of ring left box xs)
    (λ q. kid_length (goers ring box q xs) (grown ring left (quad_bounds box q) (goers ring box q xs)) (length_grown ring left (quad_bounds box q) (goers ring box q xs))))

-- as many arrive at a quadrant as go to it
pub arriving_kid : (ring : ℕ → Float) (left : ℕ) (box : Rect) (xs : List ℕ) (q : ℕ) → arriving (kid_of ring left box xs q) ≡ length (goers ring box q xs)
unfolding arriving
arriving_kid ring left box xs q =
    kid_length (goers ring box q xs) (grown ring left (quad_bounds box q) (goers ring box q xs)) (length_grown ring left (quad_bounds box q) (goers ring box q xs))

pub nodes_some : (ring : ℕ → Float) (left : ℕ) (box : Rect) (xs : List ℕ) → 1 ≤ nodes (grown ring left box xs)
unfolding nodes grown
nodes_some ring zero box xs = omega arith
nodes_some ring (suc left) box xs = grown_cases (λ t. 1 ≤ nodes t) ring left box xs (omega arith) (λ h. omega arith)
