-- The bytes of a node as the packer meets it: its segments in node order, and, in the work room, the records from its own on, six numbers each: own
-- count, arriving count of quadrant 0 to 3, packed size. A law ties them to the bytes of the tree that stands there.
use Rattle.std.specs.Prelude.{ℕ, zero, suc, ◌+◌, ◌*◌, ◌≤◌, ◌<◌, ◌≡◌, List, [], ◌∷◌, ◌++◌, cond, leb, length, get_or, take, drop}
use Rattle.tree.specs.Tree.{max_items, own_bytes, sized}

-- the bytes, and how many nodes they are of
abbrev pub Bytes : Type 0
Bytes = List ℕ × ℕ

-- from the segments and the records
abbrev pub Node : Type 0
Node = List ℕ → List ℕ → Bytes

-- a node's own segments, and the split byte
abbrev pub head_of : List ℕ → ℕ → List ℕ
head_of own split = own_bytes own ++ (split ∷ [])

abbrev pub leaf_of : List ℕ → Bytes
leaf_of run = (head_of run 0, 1)

-- the quadrants to which so many segments go: an empty one has no record
unfoldable pub kids_of : Node → List ℕ → Node
kids_of v [] run rest = ([], 0)
kids_of v (zero ∷ counts) run rest = (sized [] ++ (kids_of v counts run rest).0, (kids_of v counts run rest).1)
kids_of v (suc n ∷ counts) run rest =
    let kid = v (take (suc n) run) rest in
    let more = kids_of v counts (drop (suc n) run) (drop (kid.1 * 6) rest) in
    (sized kid.0 ++ more.0, kid.1 + more.1)

-- the four arriving counts of the first record
abbrev pub counts_of : List ℕ → List ℕ
counts_of rest = take 4 (drop 1 rest)

unfoldable pub split_of : Node → Node
split_of v run rest =
    let own = get_or rest 0 0 in
    let more = kids_of v (counts_of rest) (drop own run) (drop 6 rest) in
    (head_of (take own run) 1 ++ more.0, 1 + more.1)

-- a node with this many levels below it
unfoldable pub node_of : ℕ → Node
node_of zero run rest = leaf_of run
node_of (suc left) run rest = cond (leb (length run) max_items) (leaf_of run) (split_of (node_of left) run rest)

-- ---- the records are whole

-- what has to stand there
abbrev pub Stands : Type 1
Stands = List ℕ → List ℕ → Type 0

-- a quadrant that n segments go to
pub record Kid (v : Node) (stands : Stands) (n : ℕ) (run rest : List ℕ) : Type 0 where
  pub within : n ≤ length run
  pub node : stands (take n run) rest
  pub size : get_or rest 5 0 ≡ length (v (take n run) rest).0
  pub fits : (v (take n run) rest).1 * 6 ≤ length rest

unfoldable pub KidsStand : Node → Stands → List ℕ → Stands
KidsStand v stands [] run rest = Unit
KidsStand v stands (zero ∷ counts) run rest = KidsStand v stands counts run rest
KidsStand v stands (suc n ∷ counts) run rest =
    Kid v stands (suc n) run rest × KidsStand v stands counts (drop (suc n) run) (drop ((v (take (suc n) run) rest).1 * 6) rest)

pub record SplitStands (v : Node) (stands : Stands) (run rest : List ℕ) : Type 0 where
  pub within : get_or rest 0 0 ≤ length run
  pub kids : KidsStand v stands (counts_of rest) (drop (get_or rest 0 0) run) (drop 6 rest)

unfoldable pub NodeStands : ℕ → Stands
NodeStands zero run rest = 6 ≤ length rest
NodeStands (suc left) run rest = (6 ≤ length rest) × (max_items < length run → SplitStands (node_of left) (NodeStands left) run rest)
