-- 01, "Stripes" and "The packed tree": what one ring gets when indexes are asked for, what it calls for, and its row of the table.
use Rattle.std.specs.Prelude.{ℕ, ◌+◌, ◌*◌, List, [], ◌∷◌, Bool, not, cond, ◌&&◌, ◌||◌, leb, ltb, length, Float}
use Rattle.std.specs.Float.{binary64}
use Rattle.std.specs.Float.Ieee.{of_bits}
use Rattle.room.specs.Numbers.{bit}
use Rattle.rings.specs.Ring.{segments}
use Rattle.stripes_count.specs.Count.{stripe_count}
use Rattle.stripes_index.specs.Index.{least_y, height_y, table_of, list_of, fullest_of}
use Rattle.stripes_build.specs.Build.{crosses_in}
use Rattle.tree.specs.Tree.{work_numbers}
use Rattle.tree_build.specs.Build.{tree_bytes}
use Rattle.outline_index.specs.declared.BuildOptions.{BuildOptions}

-- the zero of least y and of height
abbrev pub no_height : Float
no_height = of_bits binary64 0

module _ (options : BuildOptions) (n : ℕ) where
  -- a ring of n segments "under the threshold"
  abbrev pub under : Bool
  under = ltb n options.min_segments

  -- it "gets no index"; another gets those that are asked for
  abbrev pub has_stripes : Bool
  has_stripes = options.enable_y_stripes && not under

  abbrev pub has_tree : Bool
  has_tree = options.enable_compressed_quad && not under

  -- "and says so", where any index is asked for: the source's `below_threshold`
  abbrev pub says_under : Bool
  says_under = (options.enable_y_stripes || options.enable_compressed_quad) && under

-- the stripes of a ring of n segments, and their list
abbrev pub ring_stripes : (ℕ → Float) → ℕ → List ℕ
ring_stripes ring n = table_of (crosses_in ring n) n (stripe_count ring n)

abbrev pub ring_list : (ℕ → Float) → ℕ → List ℕ
ring_list ring n = list_of (crosses_in ring n) n (stripe_count ring n)

module _ (options : BuildOptions) (ring : ℕ → Float) (points : ℕ) where
  -- its stripes, two numbers a stripe, and their list; its bytes; its least y and height
  unfoldable pub stripes_part : List ℕ
  stripes_part = cond (has_stripes options (segments points)) (ring_stripes ring (segments points)) []

  unfoldable pub list_part : List ℕ
  list_part = cond (has_stripes options (segments points)) (ring_list ring (segments points)) []

  unfoldable pub bytes_part : List ℕ
  bytes_part = cond (has_tree options (segments points)) (tree_bytes ring points) []

  unfoldable pub least_in : Float
  least_in = cond (has_stripes options (segments points)) (least_y ring (segments points)) no_height

  unfoldable pub height_in : Float
  height_in = cond (has_stripes options (segments points)) (height_y ring (segments points)) no_height

  abbrev pub span_part : List Float
  span_part = least_in ∷ height_in ∷ []

  -- "Statistics: segments, stripes, entries in all, fullest stripe."
  unfoldable pub stripes_in : ℕ
  stripes_in = cond (has_stripes options (segments points)) (stripe_count ring (segments points)) 0

  unfoldable pub entries_in : ℕ
  entries_in = length list_part

  unfoldable pub fullest_in : ℕ
  fullest_in = cond (has_stripes options (segments points)) (fullest_of (crosses_in ring (segments points)) (segments points) (stripe_count ring (segments points))) 0

  -- 1 for stripes, 2 for a tree
  abbrev pub kinds_in : ℕ
  kinds_in = bit (has_stripes options (segments points)) + 2 * bit (has_tree options (segments points))

  -- Its row, by where its stripes, its list and its bytes start: segments, under the threshold, kinds, the stripes' start and count, the list's
  -- start and count, the fullest stripe, the bytes' start and count.
  abbrev pub row_of : ℕ → ℕ → ℕ → List ℕ
  row_of s l b =
      segments points ∷ bit (says_under options (segments points)) ∷ kinds_in ∷ s ∷ stripes_in ∷ l ∷ entries_in ∷ fullest_in ∷ b ∷ length bytes_part ∷ []

  -- no "over 65,536 stripes are called for"
  unfoldable pub few_stripes : Bool
  few_stripes = not (has_stripes options (segments points)) || leb (stripe_count ring (segments points)) 65536

  -- "A tree build calls for six work numbers a node, root included, and one a segment."
  unfoldable pub enough_work : List ℕ → Bool
  enough_work work = not (has_tree options (segments points)) || leb (work_numbers ring points) (length work)
