-- Demand 3 for the tree: searching the bytes of a ring's tree lists exactly the segments whose closed height range holds y, each once, in node order.
-- Assumes nothing.
use Prim.Native.Nat.{ℕ, zero, suc, ◌+◌, ◌-◌, ◌*◌, ◌^◌, ◌≤◌, ◌<◌}
use mathlib.Core.Path.{◌≡◌, refl, sym, ap, ◌∙◌}
use mathlib.Core.List.{List, [], ◌∷◌, append-nil}
use mathlib.Core.Bool.{Bool, true, false, cond, ◌&&◌}
use native.Mathlib.Omega.{arith}
use native.Mathlib.Nat.{mul-le-mul_left, zero-add}
use lib.ListN.{length, length-append}
use lib.Ieee.{Float}
use lib.Dec.{ltb}
use borrow.Author.Tests.{ltb-true, ltb-false}
use Rattle.room.specs.Numbers.{up_to, bit, count}
use Rattle.room.proofs.Holds.{drop_holds}
use Rattle.room.proofs.UpTo.{up_to_length}
use Rattle.room.proofs.Count.{count_up_to, count_up_to_past}
use Rattle.boxes.specs.declared.Rect.{Rect}
use Rattle.boxes.specs.Quads.{quad_bounds}
use Rattle.rings.specs.Ring.{side_at, segments, holds_height, meeting}
use Rattle.tree.specs.Tree.{Tree, leaf, split, those, goes_to, choice, stayers, goers, unless_empty, grown, own_bytes, packed, in_order, ring_box, tree_of, max_depth, all_segments}
use Rattle.tree.specs.Search.{Found, End, ends, fails, upto, meets_height, node, searched}
use Rattle.tree.proofs.AnyOrder.{same_length}
use Rattle.tree.specs.All.{All}
use Rattle.tree.proofs.Lists.{Rising, all_map, all_those, all_kept, rising_those, those_none, those_length, count_those, those_keep, all_keep, rising_keep}
use Rattle.tree.proofs.Share.{kid_of, grown_cases, count_grown, all_grown}
use Rattle.tree.proofs.Size.{Small, per_segment, packed_size}
use Rattle.tree.proofs.Order.{Inside, Numbered, missed, inside_quad, inside_ring}
use Rattle.tree.proofs.Back.{holds_at, Own, ReadsAs, Kid, leaf_back, split_back}

-- a node has bytes
leaf_some : (xs : List ℕ) → 0 < length (packed (leaf xs))
unfolding packed
leaf_some xs = omega (arith, length-append (own_bytes xs) (0 ∷ []))

split_some : (xs : List ℕ) (f : ℕ → Tree) → 0 < length (packed (split xs f))
unfolding packed
split_some xs f = rw length-append (omega arith)

pub packed_some : (ring : ℕ → Float) (left : ℕ) (box : Rect) (xs : List ℕ) → 0 < length (packed (grown ring left box xs))
unfolding grown
packed_some ring zero box xs = leaf_some xs
packed_some ring (suc left) box xs = grown_cases (λ t. 0 < length (packed t)) ring left box xs (leaf_some xs) (λ h. split_some _ _)

module _ (bytes : List ℕ) (ring : ℕ → Float) (segments : ℕ) (y : Float) where
  -- what arrives at a node
  pub record Arriving (left : ℕ) (box : Rect) (xs : List ℕ) : Type 0 where
    pub few : segments ≤ 2 ^ 64
    pub bound : Small (per_segment left * length xs)
    pub within : All (λ x. x < segments) xs
    pub rising : Rising 0 xs
    pub inside : All (Inside ring box) xs

  owns : (left : ℕ) (box : Rect) (xs : List ℕ) (t : ℕ → Bool) → Arriving left box xs → Own bytes ring segments y (those t xs)
  owns left box xs t a =
      record {
        few = a.few;
        many = (let l = those_length t xs in let b = a.bound in omega arith);
        within = all_kept (λ x. x < segments) t xs a.within;
        rising = rising_those t 0 xs a.rising;
      }

  own_all : (left : ℕ) (box : Rect) (xs : List ℕ) → Arriving left box xs → Own bytes ring segments y xs
  own_all left box xs a = record { few = a.few; many = (let b = a.bound in omega arith); within = a.within; rising = a.rising }

  -- what goes to a quadrant
  goes : (left : ℕ) (box : Rect) (xs : List ℕ) (q : ℕ) → Arriving (suc left) box xs → Arriving left (quad_bounds box q) (goers ring box q xs)
  goes left box xs q a =
      record {
        few = a.few;
        bound = (let m = mul-le-mul_left (per_segment left) (those_length (λ i. goes_to q (choice ring box i)) xs) in let b = a.bound in omega arith);
        within = all_kept (λ x. x < segments) (λ i. goes_to q (choice ring box i)) xs a.within;
        rising = rising_those (λ i. goes_to q (choice ring box i)) 0 xs a.rising;
        inside = all_those (Inside ring (quad_bounds box q)) (λ i. goes_to q (choice ring box i)) xs
            (all_map (Inside ring box) (λ i. goes_to q (choice ring box i) ≡ true → Inside ring (quad_bounds box q) i) xs (λ i p e. inside_quad ring box i q e p) a.inside);
      }

  kid_back : (left : ℕ) (box : Rect) (ys : List ℕ) → Arriving left box ys → ReadsAs bytes ring segments y (node bytes ring segments y left) box (grown ring left box ys)
      → Kid bytes ring segments y (node bytes ring segments y left) box (unless_empty ys (grown ring left box ys))
  unfolding packed in_order those
  kid_back left box [] a r =
      record { small = omega arith; nothing = λ z. refl; reads = λ m z. absurd (z refl); misses = λ m. refl }
  kid_back left box (x ∷ ys) a r =
      record {
        small = (let b = packed_size ring left box (x ∷ ys) (omega arith) (all_map (λ k. k < segments) Small (x ∷ ys) (λ k h. let f = a.few in omega arith) a.within) a.bound in let b' = a.bound in omega arith);
        nothing = λ z. absurd (let s = packed_some ring left box (x ∷ ys) in omega arith);
        reads = λ m z. r;
        misses = λ m. those_none (holds_at bytes ring segments y) (in_order (grown ring left box (x ∷ ys)))
            (all_grown (λ i. holds_height (side_at ring i) y ≡ false) ring left box (x ∷ ys) (all_map (Inside ring box) (λ i. holds_height (side_at ring i) y ≡ false) (x ∷ ys) (λ i p. missed ring box y i m p) a.inside));
      }

  pub node_back : (left : ℕ) (box : Rect) (xs : List ℕ) → Arriving left box xs → ReadsAs bytes ring segments y (node bytes ring segments y left) box (grown ring left box xs)
  unfolding node grown in_order
  node_back zero box xs a = λ p h. leaf_back bytes ring segments y true _ box p _ xs (own_all zero box xs a) h refl
  node_back (suc left) box xs a =
      grown_cases (λ t. ReadsAs bytes ring segments y (node bytes ring segments y (suc left)) box t) ring left box xs
      (λ p h. leaf_back bytes ring segments y false (node bytes ring segments y left) box p _ xs (own_all (suc left) box xs a) h refl)
      (λ m p h. split_back bytes ring segments y (node bytes ring segments y left) box _ p (stayers ring box xs) (kid_of ring left box xs) (owns (suc left) box xs _ a)
      (λ q. kid_back left (quad_bounds box q) (goers ring box q xs) (goes left box xs q a) (node_back left (quad_bounds box q) (goers ring box q xs) (goes left box xs q a))) h refl)

-- ---- the whole tree
module _ (ring : ℕ → Float) (points : ℕ) (y : Float) where
  abbrev holds_y : ℕ → Bool
  holds_y i = holds_height (side_at ring i) y

  -- the search of the bytes of the ring's tree
  abbrev pub tree_search : Found
  tree_search = searched (packed (tree_of ring points)) ring (segments points) y (ring_box ring points)

-- a reading that ends without a refusal
abbrev pub Whole : End → Type 0
Whole (ends p) = Unit
Whole (fails why) = ⊥

module _ (ring : ℕ → Float) (points : ℕ) (y : Float) (few : points ≤ 4097) (plain : Numbered ring points) where
  root : Arriving (packed (tree_of ring points)) ring (segments points) y max_depth (ring_box ring points) (all_segments points)
  unfolding up_to
  root =
      record {
        few = omega arith;
        bound = (let l = up_to_length (λ i. true) (points - 1) 0 in omega arith);
        within = all_map (λ x. x < 0 + (points - 1 - 0)) (λ x. x < points - 1) (all_segments points) (λ x h. omega arith) (all_keep (λ i. true) (points - 1 - 0) 0);
        rising = rising_keep (λ i. true) (points - 1 - 0) 0 0 (omega arith);
        inside = all_map (λ x. x < 0 + (points - 1 - 0)) (Inside ring (ring_box ring points)) (all_segments points) (λ i h. inside_ring ring points i plain (omega arith)) (all_keep (λ i. true) (points - 1 - 0) 0);
      }

  whole_node : node (packed (tree_of ring points)) ring (segments points) y max_depth (ring_box ring points) 0 (length (packed (tree_of ring points)))
      ≡ (those (holds_y ring points y) (in_order (tree_of ring points)), ends (length (packed (tree_of ring points))))
  unfolding tree_of
  whole_node =
      let bytes = packed (grown ring max_depth (ring_box ring points) (all_segments points)) in
      rw zero-add at (node_back bytes ring (points - 1) y max_depth (ring_box ring points) (all_segments points) root 0 (drop_holds bytes 0 bytes [] (sym (append-nil bytes))))

  all_missed : meets_height (ring_box ring points) y ≡ false → those (holds_y ring points y) (in_order (tree_of ring points)) ≡ []
  unfolding tree_of
  all_missed m =
      those_none (holds_y ring points y) (in_order (grown ring max_depth (ring_box ring points) (all_segments points)))
      (all_grown (λ i. holds_y ring points y i ≡ false) ring max_depth (ring_box ring points) (all_segments points)
      (all_map (Inside ring (ring_box ring points)) (λ i. holds_y ring points y i ≡ false) (all_segments points) (λ i p. missed ring (ring_box ring points) y i m p) root.inside))

  -- what is found is what the tree holds of the height, in node order, and nothing is refused
  pub tree_found : ((tree_search ring points y).0 ≡ those (holds_y ring points y) (in_order (tree_of ring points))) × Whole (tree_search ring points y).1
  unfolding searched
  tree_found = go (meets_height (ring_box ring points) y) refl
    where
      visited : Found
      visited = node (packed (tree_of ring points)) ring (segments points) y max_depth (ring_box ring points) 0 (length (packed (tree_of ring points)))

      go : (b : Bool) → meets_height (ring_box ring points) y ≡ b
          → ((cond b visited (upto 0)).0 ≡ those (holds_y ring points y) (in_order (tree_of ring points))) × Whole (cond b visited (upto 0)).1
      go true e = (ap (λ (f : Found). f.0) whole_node, rw whole_node tt)
      go false e = (sym (all_missed e), tt)

  -- the tree holds each segment of the ring once, and no other
  pub tree_holds : (k : ℕ) → count k (in_order (tree_of ring points)) ≡ count k (all_segments points)
  unfolding tree_of
  tree_holds k = count_grown k ring max_depth (ring_box ring points) (all_segments points)

  -- by rising number they are those of all segments
  meeting_those : those (holds_y ring points y) (all_segments points) ≡ meeting ring points y
  unfolding meeting up_to
  meeting_those = those_keep (holds_y ring points y) (points - 1 - 0) 0

  -- what a search finds is what a scan finds, in another order
  pub tree_lists : (k : ℕ) → count k (tree_search ring points y).0 ≡ count k (meeting ring points y)
  tree_lists k =
      ap (count k) tree_found.0
      ∙ count_those (holds_y ring points y) k (in_order (tree_of ring points))
      ∙ ap (λ (n : ℕ). bit (holds_y ring points y k) * n) (tree_holds k)
      ∙ sym (count_those (holds_y ring points y) k (all_segments points))
      ∙ ap (count k) meeting_those

  pub tree_lists_length : length (tree_search ring points y).0 ≡ length (meeting ring points y)
  tree_lists_length = same_length (tree_search ring points y).0 (meeting ring points y) tree_lists

  meeting_once : (k : ℕ) → count k (meeting ring points y) ≡ bit (ltb k (segments points) && holds_height (side_at ring k) y)
  unfolding meeting
  meeting_once k = go (ltb k (segments points)) refl
    where
      go : (b : Bool) → ltb k (segments points) ≡ b → count k (up_to (holds_y ring points y) (segments points) 0) ≡ bit (b && holds_y ring points y k)
      go true e = count_up_to (holds_y ring points y) k (segments points) 0 (omega arith) (ltb-true k (segments points) e)
      go false e = count_up_to_past (holds_y ring points y) k (segments points) 0 (ltb-false k (segments points) e)

  -- So the search lists each segment of the ring whose own closed height range holds y exactly once, and no other number.
  pub tree_lists_once : (k : ℕ) → count k (tree_search ring points y).0 ≡ bit (ltb k (segments points) && holds_height (side_at ring k) y)
  tree_lists_once k = tree_lists k ∙ meeting_once k
