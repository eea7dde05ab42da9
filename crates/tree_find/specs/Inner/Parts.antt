-- The parts of a tree's bytes, read as tree/specs/Search.antt says: for the methods of what a search reads.
use Rattle.std.specs.Prelude.{ℕ, zero, suc, ◌+◌, ◌-◌, eqb, Float}
use Rattle.boxes.specs.declared.Rect.{Rect}
use Rattle.rings.specs.Ring.{wide}
use Rattle.tree.specs.Search.{Found, upto, after, closed, own_from, own, child, after_own, node}
use Rattle.tree_find.specs.declared.Reading.{Reading}

module _ (r : Reading) where
  abbrev pub ring_of : ℕ → Float
  ring_of = wide r.coords.now

  abbrev pub own_list_in : ℕ → ℕ → ℕ → ℕ → Found
  own_list_in end n last p = own_from r.bytes.now ring_of r.segments r.y end n last p

  abbrev pub own_in : ℕ → ℕ → Found
  own_in end p = own r.bytes.now ring_of r.segments r.y end p

  abbrev pub node_in : ℕ → Rect → ℕ → ℕ → Found
  node_in left box p end = node r.bytes.now ring_of r.segments r.y left box p end

  -- how a node with this many levels below it reads a child
  unfoldable pub below : ℕ → Rect → ℕ → ℕ → Found
  below zero box p end = upto end
  below (suc left) box p end = node_in left box p end

  abbrev pub child_in : ℕ → Rect → ℕ → ℕ → ℕ → Found
  child_in left box end q p = child r.bytes.now ring_of r.segments r.y (eqb left 0) (below left) box end q p

  abbrev pub after_own_in : ℕ → Rect → ℕ → ℕ → Found
  after_own_in left box end p = after_own r.bytes.now ring_of r.segments r.y (eqb left 0) (below left) box end p

  module _ (left : ℕ) (box : Rect) (end : ℕ) where
    -- n quadrants from q on, then the end of the node's part
    unfoldable pub children_from : ℕ → ℕ → ℕ → Found
    children_from zero q p = closed end p
    children_from (suc n) q p = after (child_in left box end q p) (λ p'. children_from n (q + 1) p')

    unfoldable pub children_to : ℕ → ℕ → Found
    children_to q p = children_from (4 - q) q p
