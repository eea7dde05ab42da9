-- What each growing function answers, and what it leaves in the room.
use Rattle.std.specs.Prelude.{Option, Some, None, ℕ, zero, suc, ◌+◌, ◌-◌, ◌*◌, ◌≤◌, ◌<◌, ◌≡◌, List, [], ◌++◌, length, take, drop, Float}
use Rattle.boxes.specs.declared.Rect.{Rect}
use Rattle.boxes.specs.Quads.{quad_bounds}
use Rattle.varint.specs.Leb128.{encode}
use Rattle.tree.specs.Tree.{Tree, unless_empty, grown, packed, nodes, in_order}
use Rattle.tree_part.specs.declared.Shares.{Shares}
use Rattle.tree_grow.specs.Inner.Records.{records}

-- how trees that stand side by side came out: their nodes and their bytes, or that their records do not fit
abbrev pub Growth : Type 0
Growth = Option (ℕ × ℕ)

-- how a whole tree came out: its nodes, or that their records do not fit
abbrev pub Grown : Type 0
Grown = Option ℕ

-- what trees that stand side by side come to: nodes, bytes, segments in node order, records
pub record Crop : Type 0 where
  pub count : ℕ
  pub size : ℕ
  pub order : List ℕ
  pub kept : List ℕ

unfoldable pub crop_of : Tree → Crop
crop_of t = record { count = nodes t; size = length (packed t); order = in_order t; kept = records t }

abbrev pub no_crop : Crop
no_crop = record { count = 0; size = 0; order = []; kept = [] }

-- A quadrant and those behind it. A quadrant's bytes have their size before them, and an empty one's size is 0.
unfoldable pub beside : Crop → Crop → Crop
beside c d =
    record {
      count = c.count + d.count;
      size = length (encode c.size) + c.size + d.size;
      order = c.order ++ d.order;
      kept = c.kept ++ d.kept;
    }

-- the tree of what arrives, empty where nothing does
unfoldable pub sprout : (ℕ → Float) → ℕ → Rect → List ℕ → Tree
sprout ring left box xs = unless_empty xs (grown ring left box xs)

-- how many go to quadrant q
abbrev pub share_of : Shares → ℕ → ℕ
share_of s zero = s.nw
share_of s (suc zero) = s.ne
share_of s (suc (suc zero)) = s.sw
share_of s (suc (suc (suc q))) = s.se

-- how many go to the n quadrants from q on
unfoldable pub shares_n : Shares → ℕ → ℕ → ℕ
shares_n s zero q = 0
shares_n s (suc n) q = share_of s q + shares_n s n (q + 1)

-- those up to quadrant 3
unfoldable pub shares_from : Shares → ℕ → ℕ
shares_from s q = shares_n s (4 - q) q

-- the n quadrants from q on, whose segments stand one behind the other
unfoldable pub crop_n : (ℕ → Float) → ℕ → Rect → Shares → ℕ → ℕ → List ℕ → Crop
crop_n ring left box s zero q run = no_crop
crop_n ring left box s (suc n) q run =
    beside (crop_of (sprout ring left (quad_bounds box q) (take (share_of s q) run))) (crop_n ring left box s n (q + 1) (drop (share_of s q) run))

unfoldable pub crop_from : (ℕ → Float) → ℕ → Rect → Shares → ℕ → List ℕ → Crop
crop_from ring left box s q run = crop_n ring left box s (4 - q) q run

-- the trees stand in the room: the segments in node order, the records at the front of what was lent for them
pub record Stood (c : Crop) (rest : List ℕ) (n size : ℕ) (run' rest' : List ℕ) : Type 0 where
  pub counted : n ≡ c.count
  pub sized : size ≡ c.size
  pub ordered : run' ≡ c.order
  pub recorded : rest' ≡ c.kept ++ drop (6 * c.count) rest
  pub fits : 6 * c.count ≤ length rest

-- Where the records do not fit, nothing is said of what is left: the caller zeroes it.
abbrev pub CameOut : Crop → List ℕ → Growth → List ℕ → List ℕ → Type 0
CameOut c rest (Some (n, size)) run' rest' = Stood c rest n size run' rest'
CameOut c rest None run' rest' = length rest < 6 * c.count

pub record Grew (c : Crop) (rest : List ℕ) (r : Growth) (run' rest' : List ℕ) : Type 0 where
  pub out : CameOut c rest r run' rest'

-- the same for the whole tree
pub record Rooted (t : Tree) (rest : List ℕ) (n : ℕ) (run' rest' : List ℕ) : Type 0 where
  pub counted : n ≡ nodes t
  pub ordered : run' ≡ in_order t
  pub recorded : rest' ≡ records t ++ drop (6 * nodes t) rest
  pub fits : 6 * nodes t ≤ length rest

abbrev pub TreeGrew : Tree → List ℕ → Grown → List ℕ → List ℕ → Type 0
TreeGrew t rest (Some n) run' rest' = Rooted t rest n run' rest'
TreeGrew t rest None run' rest' = length rest < 6 * nodes t
