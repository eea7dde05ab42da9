-- Demand 3, whole: scan, stripes and tree list the same segments, exactly those whose own closed height range holds y; and for every outline, every point,
-- both edge rules and any choice of index per ring built from that ring, the inside answer is one and the same. One field a statement, over the definitions
-- that the calls promise. `proofs/Demand3.antt` proves them all.
--
-- Nothing is defined by an index: `meeting` and `plain_inside` know only segments. `wide ring` is the ring's numbers as floats. `I32s` says that numbers are i32; any that are lent are (`lent_numbers` in crate `outline_plain` shows it).
use Rattle.std.specs.Prelude.{Ok, Err, Some, ◌≡◌, Bool, true, List, [], ◌++◌, ℕ, ◌*◌, ◌≤◌, ◌<◌, length, take, replicate, ℤ, Float}
use Rattle.std.specs.Float.Ieee.Scale.{finite}
use Rattle.answers.specs.declared.Refusal.TheVariants.{NoRoom}
use Rattle.room.specs.Numbers.{bit, count}
use Rattle.boxes.specs.declared.Point.{Point}
use Rattle.rings.specs.Ring.{wide, side_at, segments, holds_height, meeting}
use Rattle.rings.specs.I32s.{I32s}
use Rattle.rings.specs.Checks.{ring_checked}
use Rattle.rings.specs.Listing.{scanned}
use Rattle.cast_test.specs.Test.{scan_tested}
use Rattle.stripes_count.specs.Count.{stripe_count}
use Rattle.stripes_index.specs.Inner.States.{sum_to}
use Rattle.stripes_build.specs.declared.StripesStats.{StripesStats}
use Rattle.stripes_build.specs.Build.{stripes_built}
use Rattle.stripes_find.specs.Listing.{stripes_listed}
use Rattle.stripes_test.specs.Test.{stripes_tested}
use Rattle.tree.specs.Tree.{tree_of, packed, work_numbers}
use Rattle.tree_build.specs.Build.{tree_built}
use Rattle.tree_find.specs.Find.{tree_listed, tree_tested}
use Rattle.outline_check.specs.declared.Outline.{Outline}
use Rattle.outline_check.specs.Outline.{rings, size_at, ring_of}
use Rattle.outline_check.specs.Rules.{shape_checked, outline_checked}
use Rattle.outline_record.specs.Record.{boxes_of}
use Rattle.outline_record.specs.Made.{boxes_made}
use Rattle.outline_ring.specs.RingIndex.{Indexes, lent, has_stripes, has_tree, least_of, height_of, stripes_of, list_of, bytes_of, stripes_lie, tree_lies}
use Rattle.outline_ask.specs.Inside.{inside_of}
use Rattle.outline_agree.specs.Plain.{plain_inside}
use Rattle.outline_agree.specs.Own.{OwnIndexes}
use Rattle.outline_index.specs.declared.BuildOptions.{BuildOptions}
use Rattle.outline_index.specs.Parts.{has_stripes as getsStripes, has_tree as getsTree}
use Rattle.outline_build.specs.Indexes.{indexes_built}
use Rattle.outline_build.specs.Statistics.{stats_at}
use Rattle.demand_3.specs.Words.{Rises, listing, in_node_order, stripes_crossed, stripes_called, entries_called, bytes_called}

-- `build_stripes` made this index of the ring: least y, height and statistics, and what stands in the rooms s and l. It was lent some rooms, and any threshold.
abbrev pub StripesOf : List ℤ → ℕ → Float → Float → StripesStats → List ℕ → List ℕ → Type 0
StripesOf ring points least height stats s l =
    (threshold : ℕ) × (stripes : List ℕ) × (list : List ℕ) × (stripes_built ring points threshold stripes list ≡ (Ok (Some (record { least = least; height = height; stats = stats })), s, l))

-- `build_tree` made this tree of the ring: the first n bytes of what stands in the room b
abbrev pub TreeOf : List ℤ → ℕ → ℕ → List ℕ → Type 0
TreeOf ring points n b =
    (threshold : ℕ) × (bytes : List ℕ) × (work : List ℕ) × (w : List ℕ) × (tree_built ring points threshold bytes work ≡ (Ok (Some n), b, w))

-- What is lent as ring k's index was built from the ring, each part lent as it is used, all of it: stripes, a tree, both or none.
pub record BuiltIndex (x : Indexes) (k : ℕ) (ring : List ℤ) (points : ℕ) : Type 0 where
  pub stripes : has_stripes x.table k ≡ true
      → (stats : StripesStats) × (s : List ℕ) × (l : List ℕ) × (StripesOf ring points (least_of x.spans k) (height_of x.spans k) stats s l)
      × (stripes_of x.table x.stripes k ≡ take (stats.stripes * 2) s) × (list_of x.table x.list k ≡ take stats.entries l)
      × (stripes_lie x k ≡ true)
  pub tree : has_tree x.table k ≡ true → (n : ℕ) × (b : List ℕ) × (TreeOf ring points n b) × (bytes_of x.table x.bytes k ≡ take n b)
      × (tree_lies x k ≡ true)

-- `make_boxes` made this record of the outline
abbrev pub RecordOf : Outline → List ℕ → List ℤ → List ℤ → Type 0
RecordOf outline sizes coords record-room =
    (boxes : List ℤ) × (n : ℕ) × (boxes_made outline.scale sizes coords boxes ≡ (Ok n, record-room))

-- `build_indexes` left these rooms, by any options
abbrev pub IndexesOf : List ℕ → List ℤ → BuildOptions → List ℕ → List Float → List ℕ → List ℕ → List ℕ → Type 0
IndexesOf sizes coords options t sp s l b =
    (table : List ℕ) × (spans : List Float) × (stripes : List ℕ) × (list : List ℕ) × (bytes : List ℕ) × (work : List ℕ) × (n : ℕ) × (w : List ℕ)
    × (indexes_built sizes coords options table spans stripes list bytes work ≡ (Ok n, t, sp, s, l, b, w))

-- The rooms are as large as the rules call for, to index an outline by these options: ten numbers and two floats a ring; the stripes, lists and bytes of all
-- rings; work room for the ring that calls for most of it; and no ring calls for more than 65,536 stripes. `sum_to f n` is f 0 + .. + f (n - 1).
pub record RoomFor (sizes : List ℕ) (coords : List ℤ) (options : BuildOptions) (table : List ℕ) (spans : List Float) (stripes list bytes work : List ℕ)
    : Type 0 where
  pub rows : 10 * rings sizes ≤ length table
  pub heights : 2 * rings sizes ≤ length spans
  pub pairs : sum_to (λ k. stripes_called options (wide (ring_of sizes coords k)) (size_at sizes k)) (rings sizes) ≤ length stripes
  pub numbers : sum_to (λ k. entries_called options (wide (ring_of sizes coords k)) (size_at sizes k)) (rings sizes) ≤ length list
  pub trees : sum_to (λ k. bytes_called options (wide (ring_of sizes coords k)) (size_at sizes k)) (rings sizes) ≤ length bytes
  pub few : (k : ℕ) → k < rings sizes → getsStripes options (segments (size_at sizes k)) ≡ true
      → stripe_count (wide (ring_of sizes coords k)) (segments (size_at sizes k)) ≤ 65536
  pub working : (k : ℕ) → k < rings sizes → getsTree options (segments (size_at sizes k)) ≡ true
      → work_numbers (wide (ring_of sizes coords k)) (size_at sizes k) ≤ length work

pub record Demand3 : Type 0 where
  -- ---- 1. `meeting`: each segment of the ring whose own closed height range holds y stands in it once, no other does, and the numbers rise
  pub each_once : (ring : ℕ → Float) (points : ℕ) (y : Float) (i : ℕ) → i < segments points
      → count i (meeting ring points y) ≡ bit (holds_height (side_at ring i) y)
  pub no_other : (ring : ℕ → Float) (points : ℕ) (y : Float) (i : ℕ) → segments points ≤ i → count i (meeting ring points y) ≡ 0
  pub by_rising_number : (ring : ℕ → Float) (points : ℕ) (y : Float) → Rises (meeting ring points y)
  -- ---- 2. the scan of a ring that passes its checks lists `meeting`, at every finite height
  pub scan_lists : (ring : List ℤ) (points : ℕ) → ring_checked ring points ≡ Ok tt → (y : Float) → finite y ≡ true → (room : List ℕ)
      → scanned ring points y room ≡ listing Ok (Err NoRoom) (meeting (wide ring) points y) room
  -- ---- 3. so do the stripes that were built from the ring
  pub stripes_list : (ring : List ℤ) (points : ℕ) → I32s ring → (least height : Float) (stats : StripesStats) (s l : List ℕ)
      → StripesOf ring points least height stats s l → (y : Float) → finite y ≡ true → (room : List ℕ)
      → stripes_listed ring points least height (take (stats.stripes * 2) s) (take stats.entries l) y room
      ≡ listing Ok (Err NoRoom) (meeting (wide ring) points y) room
  -- ---- 4. the tree that was built from the ring lists them in node order, and that is each of them exactly once and no other
  pub tree_lists : (ring : List ℤ) (points n : ℕ) (b : List ℕ) → TreeOf ring points n b → (y : Float) → finite y ≡ true → (room : List ℕ)
      → tree_listed ring points (take n b) y room ≡ listing Ok (Err NoRoom) (in_node_order (wide ring) points y) room
  pub same_segments : (ring : List ℤ) (points : ℕ) → ring_checked ring points ≡ Ok tt → (y : Float) (i : ℕ)
      → count i (in_node_order (wide ring) points y) ≡ count i (meeting (wide ring) points y)
  -- ---- 5. the ring tests through them are the scan's, for every point and both edge rules
  pub stripes_test : (ring : List ℤ) (points : ℕ) → I32s ring → (least height : Float) (stats : StripesStats) (s l : List ℕ)
      → StripesOf ring points least height stats s l → (p : Point) (edge : Bool)
      → stripes_tested ring points least height (take (stats.stripes * 2) s) (take stats.entries l) p edge ≡ scan_tested ring points p edge
  pub tree_test : (ring : List ℤ) (points n : ℕ) (b : List ℕ) → TreeOf ring points n b → (p : Point) (edge : Bool)
      → tree_tested ring points (take n b) p edge ≡ scan_tested ring points p edge
  -- ---- 6. An outline, refused or not, with the record of its own boxes and, for each ring, no index, stripes, a tree or both, each built from that ring:
  -- the inside answer is that of the segments alone. So any two choices of indexes have one answer.
  pub inside : (outline : Outline) (sizes : List ℕ) (coords : List ℤ) → I32s coords → (behind : List ℤ) (x : Indexes) → OwnIndexes x sizes coords
      → (p : Point) (edge : Bool)
      → inside_of outline sizes coords (boxes_of sizes coords ++ behind) x p edge ≡ plain_inside outline sizes coords p edge
  pub one_answer : (outline : Outline) (sizes : List ℕ) (coords : List ℤ) → I32s coords → (behind behind' : List ℤ) (x x' : Indexes)
      → OwnIndexes x sizes coords → OwnIndexes x' sizes coords → (p : Point) (edge : Bool)
      → inside_of outline sizes coords (boxes_of sizes coords ++ behind) x p edge ≡ inside_of outline sizes coords (boxes_of sizes coords ++ behind') x' p edge
  -- the choice is free: whatever `build_stripes` and `build_tree` made of each ring, for some rings the one, for others the other, both or none
  pub any_choice : (x : Indexes) (sizes : List ℕ) (coords : List ℤ)
      → ((k : ℕ) → k < rings sizes → BuiltIndex x k (ring_of sizes coords k) (size_at sizes k)) → OwnIndexes x sizes coords
  -- ---- 7. What the calls for outlines leave is such a record and such a choice, and no index at all is a choice: empty rooms, or a table of zeros.
  pub made_record : (outline : Outline) (sizes : List ℕ) (coords room : List ℤ) → RecordOf outline sizes coords room
      → (behind : List ℤ) × (room ≡ boxes_of sizes coords ++ behind)
  pub built_indexes : (sizes : List ℕ) (coords : List ℤ) (options : BuildOptions) (t : List ℕ) (sp : List Float) (s l b : List ℕ)
      → IndexesOf sizes coords options t sp s l b → OwnIndexes (lent t sp s l b) sizes coords
  pub no_index : (sizes : List ℕ) (coords : List ℤ) → OwnIndexes (lent [] [] [] [] []) sizes coords
  pub zero_table : (n : ℕ) (sp : List Float) (s l b : List ℕ) (sizes : List ℕ) (coords : List ℤ) → OwnIndexes (lent (replicate n 0) sp s l b) sizes coords
  -- so from end to end: an outline whose record and indexes the calls made has the answer of its segments alone, whatever the options were
  pub built_inside : (outline : Outline) (sizes : List ℕ) (coords : List ℤ) → I32s coords → (room : List ℤ) → RecordOf outline sizes coords room
      → (options : BuildOptions) (t : List ℕ) (sp : List Float) (s l b : List ℕ) → IndexesOf sizes coords options t sp s l b
      → (p : Point) (edge : Bool) → inside_of outline sizes coords room (lent t sp s l b) p edge ≡ plain_inside outline sizes coords p edge
  -- ---- 8. None of this speaks of nothing. Every ring that passes its checks and reaches the threshold gets its stripes and its tree, where the room is as
  -- large as the rules call for, and every outline that passes the rules its record and its indexes, each ring those that are asked for.
  pub gets_stripes : (ring : List ℤ) (points threshold : ℕ) (stripes list : List ℕ) → ring_checked ring points ≡ Ok tt → threshold ≤ segments points
      → stripe_count (wide ring) (segments points) ≤ 65536 → stripe_count (wide ring) (segments points) * 2 ≤ length stripes
      → sum_to (stripes_crossed (wide ring) (segments points)) (segments points) ≤ length list
      → (least : Float) × (height : Float) × (stats : StripesStats) × (s : List ℕ) × (l : List ℕ)
      × (stripes_built ring points threshold stripes list ≡ (Ok (Some (record { least = least; height = height; stats = stats })), s, l))
  pub gets_tree : (ring : List ℤ) (points threshold : ℕ) (bytes work : List ℕ) → ring_checked ring points ≡ Ok tt → threshold ≤ segments points
      → length (packed (tree_of (wide ring) points)) ≤ length bytes → work_numbers (wide ring) points ≤ length work
      → (n : ℕ) × (b : List ℕ) × (w : List ℕ) × (tree_built ring points threshold bytes work ≡ (Ok (Some n), b, w))
  pub gets_record : (outline : Outline) (sizes : List ℕ) (coords boxes : List ℤ) → outline_checked outline.scale sizes coords ≡ Ok tt
      → 4 * rings sizes ≤ length boxes
      → (room : List ℤ) × (boxes_made outline.scale sizes coords boxes ≡ (Ok (rings sizes), room))
  pub gets_indexes : (sizes : List ℕ) (coords : List ℤ) (options : BuildOptions) (table : List ℕ) (spans : List Float) (stripes list bytes work : List ℕ)
      → shape_checked sizes coords ≡ Ok tt → RoomFor sizes coords options table spans stripes list bytes work
      → (t : List ℕ) × (sp : List Float) × (s : List ℕ) × (l : List ℕ) × (b : List ℕ) × (w : List ℕ)
      × (indexes_built sizes coords options table spans stripes list bytes work ≡ (Ok (rings sizes), t, sp, s, l, b, w))
  pub each_ring_of : (sizes : List ℕ) (coords : List ℤ) (options : BuildOptions) (t : List ℕ) (sp : List Float) (s l b : List ℕ)
      → IndexesOf sizes coords options t sp s l b → (k : ℕ) → k < rings sizes
      → (has_stripes t k ≡ getsStripes options (segments (size_at sizes k))) × (has_tree t k ≡ getsTree options (segments (size_at sizes k)))
  -- ---- Statistics: "Entries in all equals the sum, over segments, of stripes crossed", of one ring's stripes and of each ring of a built outline.
  pub entries : (ring : List ℤ) (points : ℕ) (least height : Float) (stats : StripesStats) (s l : List ℕ) → StripesOf ring points least height stats s l
      → stats.entries ≡ sum_to (stripes_crossed (wide ring) (segments points)) (segments points)
  pub built_entries : (sizes : List ℕ) (coords : List ℤ) (options : BuildOptions) (t : List ℕ) (sp : List Float) (s l b : List ℕ)
      → IndexesOf sizes coords options t sp s l b → (k : ℕ) → k < rings sizes → (stats : StripesStats)
      → (stats_at t k).y_stripes ≡ Some stats
      → stats.entries ≡ sum_to (stripes_crossed (wide (ring_of sizes coords k)) (segments (size_at sizes k))) (segments (size_at sizes k))
