-- The tree of a ring is by 01's own words on quadrants: in every box that a node can have, each segment of the ring goes where they send it. The
-- definition of the tree has the source's order of tests, which is theirs where no NaN is met; the ring's numbers are coordinates. Assumes nothing.
use Prim.Native.Nat.{ℕ, zero, suc, ◌+◌, ◌-◌, ◌*◌, ◌≤◌, ◌<◌}
use mathlib.Core.Path.{◌≡◌}
use mathlib.Core.List.{List, [], ◌∷◌}
use native.Mathlib.Omega.{arith}
use lib.Ieee.{Float}
use Rattle.floats.proofs.Values.{lesser_either, greater_either}
use Rattle.boxes.specs.declared.Rect.{Rect}
use Rattle.boxes.specs.Quads.{chosen_of_numbers, quad_bounds, mid_x, mid_y}
use Rattle.boxes.specs.Segments.{box_of}
use Rattle.boxes.proofs.Sizes.{Coordinate, coordinate_number, middle_coordinate}
use Rattle.boxes.proofs.Quads.{Placed, quad_placed, as_written}
use Rattle.rings.specs.Ring.{spot_at, side_at, segments}
use Rattle.tree.specs.Tree.{choice, least, greatest, ring_box}

-- the box of the node that is reached by these quadrants, one after another, from a node with this box
unfoldable pub box_at : Rect → List ℕ → Rect
box_at box [] = box
box_at box (q ∷ qs) = box_at (quad_bounds box q) qs

placed_at : (box : Rect) (qs : List ℕ) → Placed box → Placed (box_at box qs)
unfolding box_at
placed_at box [] p = p
placed_at box (q ∷ qs) p = placed_at (quad_bounds box q) qs (quad_placed box p q)

least_coordinate : (f : ℕ → Float) (n : ℕ) → ((k : ℕ) → k ≤ n → Coordinate (f k)) → Coordinate (least f n)
unfolding least
least_coordinate f zero c = c 0 (omega arith)
least_coordinate f (suc n) c = lesser_either Coordinate (least f n) (f (suc n)) (least_coordinate f n (λ k h. c k (omega arith))) (c (suc n) (omega arith))

greatest_coordinate : (f : ℕ → Float) (n : ℕ) → ((k : ℕ) → k ≤ n → Coordinate (f k)) → Coordinate (greatest f n)
unfolding greatest
greatest_coordinate f zero c = c 0 (omega arith)
greatest_coordinate f (suc n) c = greater_either Coordinate (greatest f n) (f (suc n)) (greatest_coordinate f n (λ k h. c k (omega arith))) (c (suc n) (omega arith))

-- a segment's box, and the ring's
module _ (ring : ℕ → Float) (points : ℕ) (stored : (k : ℕ) → k < points * 2 → Coordinate (ring k)) (some : 0 < points) where
  ring_placed : Placed (ring_box ring points)
  unfolding ring_box
  ring_placed =
      record {
        left = least_coordinate (λ i. (spot_at ring i).x) (points - 1) (λ k h. stored (k * 2) (omega arith));
        low = least_coordinate (λ i. (spot_at ring i).y) (points - 1) (λ k h. stored (k * 2 + 1) (omega arith));
        right = greatest_coordinate (λ i. (spot_at ring i).x) (points - 1) (λ k h. stored (k * 2) (omega arith));
        high = greatest_coordinate (λ i. (spot_at ring i).y) (points - 1) (λ k h. stored (k * 2 + 1) (omega arith));
      }

  pub by_the_words : (qs : List ℕ) (i : ℕ) → i < segments points
      → choice ring (box_at (ring_box ring points) qs) i ≡ chosen_of_numbers (box_at (ring_box ring points) qs) (box_of (side_at ring i))
  by_the_words qs i h =
      let b = box_at (ring_box ring points) qs in
      let r = box_of (side_at ring i) in
      let p = placed_at (ring_box ring points) qs ring_placed in
      as_written b r
      (coordinate_number (mid_x b) (middle_coordinate b.min.x b.max.x p.left p.right)).1
      (coordinate_number (mid_y b) (middle_coordinate b.min.y b.max.y p.low p.high)).1
      (coordinate_number r.min.x (lesser_either Coordinate _ _ (stored (i * 2) (omega arith)) (stored (i * 2 + 2) (omega arith)))).1
      (coordinate_number r.min.y (lesser_either Coordinate _ _ (stored (i * 2 + 1) (omega arith)) (stored (i * 2 + 3) (omega arith)))).1
