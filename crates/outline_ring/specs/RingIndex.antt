-- 01, "Asking": the ring test of one ring of an outline, through the index that is lent for it, whoever wrote it.
use Rattle.std.specs.Prelude.{Err, Bool, cond, ◌&&◌, List, ℕ, ◌+◌, ◌*◌, ◌/◌, ◌%◌, length, get_or, take, drop, eqb, leb, Float}
use Rattle.std.specs.Float.{binary64}
use Rattle.std.specs.Float.Ieee.{of_bits}
use Rattle.answers.specs.Answers.{Answer}
use Rattle.answers.specs.declared.Refusal.TheVariants.{Damaged}
use Rattle.answers.specs.Answers.{said}
use Rattle.boxes.specs.declared.Point.{Point}
use Rattle.boxes.specs.declared.Rect.{Rect}
use Rattle.cast_test.specs.Test.{scan_of}
use Rattle.stripes_find.specs.Search.{searched as stripesSearched}
use Rattle.stripes_test.specs.Test.{verdict as stripesVerdict}
use Rattle.tree.specs.Search.{searched as treeSearched}
use Rattle.tree_find.specs.Find.{verdict as treeVerdict}
use Rattle.outline_ring.specs.declared.Indexes.{Indexes as Rooms}
use Rattle.outline_table.specs.Row.{number, kinds_place, stripes_start, stripes_place, list_start, entries_place, bytes_start, bytes_place}

-- The indexes of all rings of an outline: a table, ten numbers a ring; least y and height, two floats a ring; and the stripes, lists and bytes of all
-- rings in one row each, in which the table says where a ring's own part starts and how much of it there is.
pub record Indexes : Type 0 where
  pub table : List ℕ
  pub spans : List Float
  pub stripes : List ℕ
  pub list : List ℕ
  pub bytes : List ℕ

abbrev pub lent : List ℕ → List Float → List ℕ → List ℕ → List ℕ → Indexes
lent table spans stripes list bytes = record { table = table; spans = spans; stripes = stripes; list = list; bytes = bytes }

-- those that a call is lent
abbrev pub lent_in : Rooms → Indexes
lent_in x = lent x.table.now x.spans.now x.stripes.now x.list.now x.bytes.now

-- n numbers from `at` on
abbrev pub part : {A : Type 0} → List A → ℕ → ℕ → List A
part xs at n = take n (drop at xs)

-- all n of them are there
abbrev pub lies : {A : Type 0} → List A → ℕ → ℕ → Bool
lies xs at n = leb (at + n) (length xs)

-- the zero of floats
abbrev pub none : Float
none = of_bits binary64 0

-- which indexes the ring has: 1 for stripes, 2 for a tree, 3 for both
abbrev pub has_stripes : List ℕ → ℕ → Bool
has_stripes table k = eqb (number table k kinds_place % 2) 1

abbrev pub has_tree : List ℕ → ℕ → Bool
has_tree table k = eqb (number table k kinds_place / 2 % 2) 1

abbrev pub least_of : List Float → ℕ → Float
least_of spans k = get_or spans (2 * k) none

abbrev pub height_of : List Float → ℕ → Float
height_of spans k = get_or spans (2 * k + 1) none

-- the ring's own part of all stripes, two numbers a stripe
abbrev pub stripes_of : List ℕ → List ℕ → ℕ → List ℕ
stripes_of table stripes k = part stripes (number table k stripes_start) (2 * number table k stripes_place)

-- of all lists
abbrev pub list_of : List ℕ → List ℕ → ℕ → List ℕ
list_of table list k = part list (number table k list_start) (number table k entries_place)

-- of the bytes of all trees
abbrev pub bytes_of : List ℕ → List ℕ → ℕ → List ℕ
bytes_of table bytes k = part bytes (number table k bytes_start) (number table k bytes_place)

-- What the table says that a ring has lies wholly in the rooms that are lent. The search can't tell that a part was cut short: of 32 stripes of which
-- 16 are lent it takes the last of the 16 for the uppermost, and misses segments with no refusal.
abbrev pub stripes_lie : Indexes → ℕ → Bool
stripes_lie x k =
    lies x.stripes (number x.table k stripes_start) (2 * number x.table k stripes_place) && lies x.list (number x.table k list_start) (number x.table k entries_place)
    && lies x.spans (2 * k) 2

abbrev pub tree_lies : Indexes → ℕ → Bool
tree_lies x k = lies x.bytes (number x.table k bytes_start) (number x.table k bytes_place)

-- The ring test through each, of a ring by its numbers as floats. A part that doesn't lie there is damage, place 0, before the search and so at every height.
abbrev pub stripes_asked : Indexes → ℕ → (ℕ → Float) → ℕ → Point → Bool → Answer
stripes_asked x k ring n p edge =
    cond (stripes_lie x k)
    (stripesVerdict ring p edge (stripesSearched ring n (least_of x.spans k) (height_of x.spans k) (stripes_of x.table x.stripes k) (list_of x.table x.list k) p.y))
    (Err (Damaged 0))

abbrev pub tree_asked : Indexes → ℕ → Rect → (ℕ → Float) → ℕ → Point → Bool → Answer
tree_asked x k box ring n p edge =
    cond (tree_lies x k) (treeVerdict ring p edge (treeSearched (bytes_of x.table x.bytes k) ring n p.y box)) (Err (Damaged 0))

-- "A ring without an index is scanned; with both, the stripes are read." Ring k has n segments and this box; p is finite.
unfoldable pub ring_asked : Indexes → ℕ → Rect → (ℕ → Float) → ℕ → Point → Bool → Answer
ring_asked x k box ring n p edge =
    cond (has_stripes x.table k) (stripes_asked x k ring n p edge)
    (cond (has_tree x.table k) (tree_asked x k box ring n p edge) (said (scan_of ring n p edge)))
