-- The few words that demand 3 is stated in, beside those of the calls themselves.
use Rattle.std.specs.Prelude.{cond, List, ℕ, suc, ◌-◌, ◌*◌, ◌<◌, leb, length, get_or, replicate, Float}
use Rattle.room.specs.Room.{pad}
use Rattle.rings.specs.Ring.{side_at, segments, holds_height}
use Rattle.stripes_count.specs.Count.{stripe_count}
use Rattle.stripes_index.specs.Index.{least_y, height_y, first_stripe, last_stripe}
use Rattle.stripes_index.specs.Inner.States.{sum_to}
use Rattle.tree.specs.Tree.{those, in_order, tree_of, packed}
use Rattle.outline_index.specs.declared.BuildOptions.{BuildOptions}
use Rattle.outline_index.specs.Parts.{has_stripes, has_tree}

-- each number of the list is below the next one
abbrev pub Rises : List ℕ → Type 0
Rises xs = (j : ℕ) → suc j < length xs → get_or xs j 0 < get_or xs (suc j) 0

-- What a listing call that has these numbers to list answers, and what it leaves in the room: how many there are, the numbers and zeros behind them; or,
-- where they outnumber the room, refusal 8 and zeros. All three listing calls say "so many" by `Ok` and "8" by `Err NoRoom`.
abbrev pub listing : {Said : Type 0} → (ℕ → Said) → Said → List ℕ → List ℕ → Said × List ℕ
listing many short numbers room =
    cond (leb (length numbers) (length room)) (many (length numbers), pad (length room) numbers) (short, replicate (length room) 0)

-- the segments whose own closed height range holds y, in the node order of the ring's tree
abbrev pub in_node_order : (ℕ → Float) → ℕ → Float → List ℕ
in_node_order ring points y = those (λ i. holds_height (side_at ring i) y) (in_order (tree_of ring points))

-- how many stripes segment i of a ring of n segments crosses, in the ring's own stripes: from that of its low end to that of its high end
abbrev pub stripes_crossed : (ℕ → Float) → ℕ → ℕ → ℕ
stripes_crossed ring n i =
    suc (last_stripe ring (least_y ring n) (height_y ring n) (stripe_count ring n) i) - first_stripe ring (least_y ring n) (height_y ring n) (stripe_count ring n) i

-- What one ring of an outline calls for, by the rules: the numbers of its stripes, two a stripe; its list's, one for each stripe that a segment crosses; its
-- tree's bytes. `has_stripes` and `has_tree` say that an index is asked for and the threshold is reached; a ring without one calls for nothing.
module _ (options : BuildOptions) (ring : ℕ → Float) (points : ℕ) where
  abbrev pub stripes_called : ℕ
  stripes_called = cond (has_stripes options (segments points)) (stripe_count ring (segments points) * 2) 0

  abbrev pub entries_called : ℕ
  entries_called = cond (has_stripes options (segments points)) (sum_to (stripes_crossed ring (segments points)) (segments points)) 0

  abbrev pub bytes_called : ℕ
  bytes_called = cond (has_tree options (segments points)) (length (packed (tree_of ring points))) 0
