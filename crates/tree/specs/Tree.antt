-- 01, "The packed tree": the tree of a ring, and its bytes.
use Rattle.std.specs.Prelude.{Option, Some, None, ℕ, zero, suc, ◌+◌, ◌-◌, ◌*◌, List, [], ◌∷◌, ◌++◌, Bool, true, false, cond, leb, eqb, length, Float}
use Rattle.floats.specs.Values.{lesser_of, greater_of}
use Rattle.boxes.specs.declared.Rect.{Rect}
use Rattle.boxes.specs.Quads.{chosen, quad_bounds}
use Rattle.boxes.specs.Segments.{box_of}
use Rattle.rings.specs.Ring.{spot_at, side_at, segments, numbers}
use Rattle.room.specs.Numbers.{cons_if}
use Rattle.varint.specs.Leb128.{encode}
use Rattle.tree.specs.declared.QuadTree.{QuadTree}

-- "`Q_MAX_ITEMS` is 12, `Q_MAX_DEPTH` 64"
abbrev pub max_items : ℕ
max_items = 12

abbrev pub max_depth : ℕ
max_depth = 64

-- A quadrant that nothing goes to is empty. A node that splits has its own segments and four quadrants, by number.
pub data Tree : Type 0 where
  empty : Tree
  leaf : List ℕ → Tree
  split : List ℕ → (ℕ → Tree) → Tree

-- those of a list at which the test holds, in the list's order
unfoldable pub those : (ℕ → Bool) → List ℕ → List ℕ
those t [] = []
those t (x ∷ xs) = cons_if (t x) x (those t xs)

abbrev pub goes_to : ℕ → Option ℕ → Bool
goes_to q (Some k) = eqb k q
goes_to q None = false

abbrev pub is_stayer : Option ℕ → Bool
is_stayer (Some k) = false
is_stayer None = true

-- where segment i of a ring goes from a node with this box
abbrev pub choice : (ℕ → Float) → Rect → ℕ → Option ℕ
choice ring box i = chosen box (box_of (side_at ring i))

-- "stayers are its own"
abbrev pub stayers : (ℕ → Float) → Rect → List ℕ → List ℕ
stayers ring box xs = those (λ i. is_stayer (choice ring box i)) xs

abbrev pub goers : (ℕ → Float) → Rect → ℕ → List ℕ → List ℕ
goers ring box q xs = those (λ i. goes_to q (choice ring box i)) xs

-- "each non-empty quadrant is a child"
abbrev pub unless_empty : List ℕ → Tree → Tree
unless_empty [] t = empty
unless_empty (x ∷ xs) t = t

-- A node with this box, this many levels below it, and these segments arriving.
-- "A node at depth 64, or with at most 12 segments arriving, is a leaf. Otherwise it splits"
unfoldable pub grown : (ℕ → Float) → ℕ → Rect → List ℕ → Tree
grown ring zero box xs = leaf xs
grown ring (suc left) box xs =
    cond (leb (length xs) max_items) (leaf xs)
    (split (stayers ring box xs) (λ q. unless_empty (goers ring box q xs) (grown ring left (quad_bounds box q) (goers ring box q xs))))

-- the least and the greatest of f 0 .. f n
unfoldable pub least : (ℕ → Float) → ℕ → Float
least f zero = f 0
least f (suc n) = lesser_of (least f n) (f (suc n))

unfoldable pub greatest : (ℕ → Float) → ℕ → Float
greatest f zero = f 0
greatest f (suc n) = greater_of (greatest f n) (f (suc n))

-- what picking one of two gives over f 0 .. f n: `least` picks the lesser each time, `greatest` the greater
unfoldable pub picked : (Float → Float → Float) → (ℕ → Float) → ℕ → Float
picked pick f zero = f 0
picked pick f (suc n) = pick (picked pick f n) (f (suc n))

-- the ring's box: the least and the greatest x and y of its points
unfoldable pub ring_box : (ℕ → Float) → ℕ → Rect
ring_box ring points =
    let last = points - 1 in
    record {
      min = record { x = least (λ i. (spot_at ring i).x) last; y = least (λ i. (spot_at ring i).y) last };
      max = record { x = greatest (λ i. (spot_at ring i).x) last; y = greatest (λ i. (spot_at ring i).y) last };
    }

-- all segments of a ring of this many points, by rising number
abbrev pub all_segments : ℕ → List ℕ
all_segments points = numbers (segments points)

-- the tree of a ring: all its segments arrive at the root, whose box is the ring's
unfoldable pub tree_of : (ℕ → Float) → ℕ → Tree
tree_of ring points = grown ring max_depth (ring_box ring points) (all_segments points)

-- ---- bytes

-- "rising differences from 0"
unfoldable pub differences : ℕ → List ℕ → List ℕ
differences last [] = []
differences last (x ∷ xs) = encode (x - last) ++ differences x xs

unfoldable pub own_bytes : List ℕ → List ℕ
own_bytes xs = encode (length xs) ++ differences 0 xs

-- "the byte size and the bytes, or 0"
unfoldable pub sized : List ℕ → List ℕ
sized bytes = encode (length bytes) ++ bytes

-- "for each quadrant", 0 to 3
abbrev pub for_each_quadrant : (ℕ → List ℕ) → List ℕ
for_each_quadrant f = f 0 ++ (f 1 ++ (f 2 ++ f 3))

-- "count, rising differences from 0, split byte 0 or 1; if 1, for each quadrant the byte size and the bytes, or 0"
unfoldable pub packed : Tree → List ℕ
packed empty = []
packed (leaf xs) = own_bytes xs ++ (0 ∷ [])
packed (split xs kids) = own_bytes xs ++ (1 ∷ for_each_quadrant (λ q. sized (packed (kids q))))

-- ---- what a build calls for, and the order of a search

-- nodes, "root included"
unfoldable pub nodes : Tree → ℕ
nodes empty = 0
nodes (leaf xs) = 1
nodes (split xs kids) = 1 + (nodes (kids 0) + nodes (kids 1) + nodes (kids 2) + nodes (kids 3))

-- "six work numbers a node, root included, and one a segment"
abbrev pub work_numbers : (ℕ → Float) → ℕ → ℕ
work_numbers ring points = 6 * nodes (tree_of ring points) + segments points

-- node order: "Own segments first, then quadrants", "0 to 3"
unfoldable pub in_order : Tree → List ℕ
in_order empty = []
in_order (leaf xs) = xs
in_order (split xs kids) = xs ++ for_each_quadrant (λ q. in_order (kids q))

-- what a tree is read and built by
abbrev pub quad_tree_of : (ℕ → Float) → ℕ → QuadTree
quad_tree_of ring points = record { bounds = ring_box ring points; segments = segments points }
