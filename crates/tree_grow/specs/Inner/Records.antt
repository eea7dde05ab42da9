-- What growing leaves: where the segments stood, the segments in node order; in the room for nodes, six numbers a node, each node before its quadrants.
use Rattle.std.specs.Prelude.{ℕ, List, [], ◌∷◌, length}
use Rattle.tree.specs.Tree.{Tree, empty, leaf, split, for_each_quadrant, packed, in_order}

-- how many segments stand in a tree
unfoldable pub arriving : Tree → ℕ
arriving t = length (in_order t)

-- own count, what arrives at each quadrant, packed size in bytes
unfoldable pub records : Tree → List ℕ
records empty = []
records (leaf xs) = length xs ∷ 0 ∷ 0 ∷ 0 ∷ 0 ∷ length (packed (leaf xs)) ∷ []
records (split xs kids) =
    length xs ∷ arriving (kids 0) ∷ arriving (kids 1) ∷ arriving (kids 2) ∷ arriving (kids 3) ∷ length (packed (split xs kids))
    ∷ for_each_quadrant (λ q. records (kids q))
