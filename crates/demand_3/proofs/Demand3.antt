-- Demand 3, proved: each field by the law that has it. Assumes nothing.
use Rattle.std.specs.Prelude.{Ok, Err}
use mathlib.Core.Path.{◌≡◌, refl, sym, ap, ◌∙◌}
use mathlib.Core.Bool.{Bool, true}
use mathlib.Core.List.{List, ◌++◌}
use Prim.Native.Nat.{ℕ, ◌-◌, ◌*◌, ◌<◌}
use lib.ListN.{length, take, replicate}
use lib.IntN.{ℤ, pos}
use lib.Ieee.{Float}
use lib.Ieee.Scale.{finite}
use Rattle.answers.specs.declared.Refusal.TheVariants.{NoRoom}
use Rattle.boxes.specs.declared.Point.{Point}
use Rattle.room.specs.Numbers.{count}
use Rattle.room.specs.Room.{padded}
use Rattle.rings.specs.Ring.{wide, segments, meeting}
use Rattle.rings.specs.I32s.{I32s}
use Rattle.rings.specs.Checks.{ring_checked}
use Rattle.rings.specs.Listing.{scanned}
use Rattle.cast_test.specs.Test.{scan_test, scan_tested_by, scan_tested}
use Rattle.stripes_build.specs.declared.StripesStats.{StripesStats}
use Rattle.stripes_find.specs.Listing.{stripes_listed}
use Rattle.stripes_test.specs.Test.{stripes_tested}
use Rattle.stripes_agree.proofs.Demand.{built_sound}
use Rattle.stripes_agree.proofs.Listed.{demand_3 as stripes-demand}
use Rattle.stripes_agree.proofs.AsScan.{tests_as_scan}
use Rattle.tree.proofs.Searchable.{stored}
use Rattle.tree.proofs.Demand.{tree_found, tree_lists}
use Rattle.tree_find.specs.Find.{tree_listed, tree_tested}
use Rattle.tree_find.proofs.Demand.{lists_all}
use Rattle.tree_build.proofs.Demand.{builds, built_is, used, tests_built_as_scan}
use Rattle.outline_check.specs.declared.Outline.{Outline}
use Rattle.outline_check.specs.Outline.{rings, size_at, ring_of}
use Rattle.outline_record.specs.Record.{boxes_of}
use Rattle.outline_record.specs.Made.{pad_z}
use Rattle.outline_record.proofs.Read.{made_record}
use Rattle.outline_ring.specs.RingIndex.{lent, has_stripes, has_tree}
use Rattle.outline_ask.specs.Inside.{inside_of}
use Rattle.outline_agree.specs.Plain.{plain_inside}
use Rattle.outline_agree.specs.Own.{OwnIndexes}
use Rattle.outline_agree.proofs.Lists.{each_once, no_other, scan_lists}
use Rattle.outline_agree.proofs.Demand.{demand_3 as outline-demand, one_answer}
use Rattle.outline_index.specs.declared.BuildOptions.{BuildOptions}
use Rattle.outline_index.specs.Parts.{has_stripes as getsStripes, has_tree as getsTree}
use Rattle.outline_read.proofs.Left.{left_own, left_stripes, left_tree}
use Rattle.outline_read.proofs.Demand.{built_answers, none_own, zeros_own}
use Rattle.demand_3.specs.Words.{listing, in_node_order}
use Rattle.demand_3.specs.Demand3.{Demand3, StripesOf, TreeOf, RecordOf, IndexesOf}
use Rattle.demand_3.proofs.Lists.{meeting_rises, by_scan_lem, by_stripes_lem, by_tree_lem}
use Rattle.demand_3.proofs.Choice.{own_built}
use Rattle.demand_3.proofs.Entries.{stats_entries, row_entries}
use Rattle.demand_3.proofs.Gets.{stripes_got, record_got, indexes_got}

-- of a ring that passed its checks the scan's test is what the scan's call answers
scan_answers : (ring : List ℤ) (points : ℕ) → ring_checked ring points ≡ Ok tt → (p : Point) (edge : Bool) → scan_test (wide ring) points p edge ≡ scan_tested ring points p edge
unfolding scan_tested_by
scan_answers ring points sound p edge = rw sound

module _ (ring : List ℤ) (points : ℕ) where
  scan : ring_checked ring points ≡ Ok tt → (y : Float) → finite y ≡ true → (room : List ℕ)
      → scanned ring points y room ≡ listing Ok (Err NoRoom) (meeting (wide ring) points y) room
  scan sound y f room = scan_lists ring points y sound room f ∙ by_scan_lem (meeting (wide ring) points y) room

  same : ring_checked ring points ≡ Ok tt → (y : Float) (i : ℕ) → count i (in_node_order (wide ring) points y) ≡ count i (meeting (wide ring) points y)
  same sound y i =
      let few = (stored ring points).few sound in
      let plain = (stored ring points).plain sound in
      sym (ap (count i) (tree_found (wide ring) points y few plain).0) ∙ tree_lists (wide ring) points y few plain i

  module _ (nums : I32s ring) (least height : Float) (stats : StripesStats) (s l : List ℕ) where
    stripes_list : StripesOf ring points least height stats s l → (y : Float) → finite y ≡ true → (room : List ℕ)
        → stripes_listed ring points least height (take (stats.stripes * 2) s) (take stats.entries l) y room
        ≡ listing Ok (Err NoRoom) (meeting (wide ring) points y) room
    stripes_list (threshold, stripes, list, built) y f room =
        stripes-demand ring points threshold nums stripes list least height stats s l built y room f ∙ by_stripes_lem (meeting (wide ring) points y) room

    stripes_test : StripesOf ring points least height stats s l → (p : Point) (edge : Bool)
        → stripes_tested ring points least height (take (stats.stripes * 2) s) (take stats.entries l) p edge ≡ scan_tested ring points p edge
    stripes_test (threshold, stripes, list, built) p edge =
        tests_as_scan ring points threshold nums stripes list least height stats s l built p edge
        ∙ scan_answers ring points (built_sound ring points threshold nums stripes list least height stats s l built p.y) p edge

  module _ (n : ℕ) (b : List ℕ) where
    tree_list_lem : TreeOf ring points n b → (y : Float) → finite y ≡ true → (room : List ℕ)
        → tree_listed ring points (take n b) y room ≡ listing Ok (Err NoRoom) (in_node_order (wide ring) points y) room
    tree_list_lem (threshold, bytes, work, w, built) y f room =
        ap (λ (xs : List ℕ). tree_listed ring points xs y room) (used (ring_checked ring points) (wide ring) points threshold (stored ring points) bytes work n b w built)
        ∙ lists_all (ring_checked ring points) (wide ring) points (stored ring points) (built_is (ring_checked ring points) (wide ring) points bytes work n b w threshold built).sound y room f
        ∙ by_tree_lem (in_node_order (wide ring) points y) room 0

    tree_test : TreeOf ring points n b → (p : Point) (edge : Bool) → tree_tested ring points (take n b) p edge ≡ scan_tested ring points p edge
    tree_test (threshold, bytes, work, w, built) p edge =
        tests_built_as_scan (ring_checked ring points) (wide ring) points threshold (stored ring points) bytes work n b w built p edge
        ∙ scan_answers ring points (built_is (ring_checked ring points) (wide ring) points bytes work n b w threshold built).sound p edge

pad_parts : (n : ℕ) (xs : List ℤ) → pad_z n xs ≡ xs ++ replicate (n - length xs) (pos 0)
unfolding padded
pad_parts n xs = refl

made : (outline : Outline) (sizes : List ℕ) (coords room : List ℤ) → RecordOf outline sizes coords room → (behind : List ℤ) × (room ≡ boxes_of sizes coords ++ behind)
made outline sizes coords room (boxes, n, e) = (
  replicate (length boxes - length (boxes_of sizes coords)) (pos 0),
  (made_record outline.scale sizes coords boxes room n e).2 ∙ pad_parts (length boxes) (boxes_of sizes coords),
)

own : (sizes : List ℕ) (coords : List ℤ) (options : BuildOptions) (t : List ℕ) (sp : List Float) (s l b : List ℕ)
    → IndexesOf sizes coords options t sp s l b → OwnIndexes (lent t sp s l b) sizes coords
own sizes coords options t sp s l b (table, spans, stripes, list, bytes, work, n, w, e) =
    left_own sizes coords options table spans stripes list bytes work n t sp s l b w e

built_inside : (outline : Outline) (sizes : List ℕ) (coords : List ℤ) → I32s coords → (room : List ℤ) → RecordOf outline sizes coords room
    → (options : BuildOptions) (t : List ℕ) (sp : List Float) (s l b : List ℕ) → IndexesOf sizes coords options t sp s l b
    → (p : Point) (edge : Bool) → inside_of outline sizes coords room (lent t sp s l b) p edge ≡ plain_inside outline sizes coords p edge
built_inside outline sizes coords nums room (boxes, m, made) options t sp s l b (table, spans, stripes, list, bytes, work, n, w, e) p edge =
    built_answers outline sizes coords nums boxes room m made p edge options table spans stripes list bytes work n t sp s l b w e

each : (sizes : List ℕ) (coords : List ℤ) (options : BuildOptions) (t : List ℕ) (sp : List Float) (s l b : List ℕ)
    → IndexesOf sizes coords options t sp s l b → (k : ℕ) → k < rings sizes
    → (has_stripes t k ≡ getsStripes options (segments (size_at sizes k))) × (has_tree t k ≡ getsTree options (segments (size_at sizes k)))
each sizes coords options t sp s l b (table, spans, stripes, list, bytes, work, n, w, e) k below = (
  left_stripes sizes coords options table spans stripes list bytes work n t sp s l b w e k below,
  left_tree sizes coords options table spans stripes list bytes work n t sp s l b w e k below,
)

pub demand_3 : Demand3
demand_3 =
    record {
      each_once = each_once;
      no_other = no_other;
      by_rising_number = meeting_rises;
      scan_lists = scan;
      stripes_list = stripes_list;
      tree_lists = tree_list_lem;
      same_segments = same;
      stripes_test = stripes_test;
      tree_test = tree_test;
      inside = outline-demand;
      one_answer = one_answer;
      any_choice = λ x sizes coords built k below. own_built x k (ring_of sizes coords k) (size_at sizes k) (built k below);
      made_record = made;
      built_indexes = own;
      no_index = none_own;
      zero_table = zeros_own;
      built_inside = built_inside;
      gets_stripes = stripes_got;
      gets_tree =
          λ ring points threshold bytes work sound reached roomy enough.
          (_, _, _, builds (ring_checked ring points) (wide ring) points threshold bytes work sound reached enough roomy);
      gets_record = record_got;
      gets_indexes =
          λ sizes coords options table spans stripes list bytes work sound room. indexes_got sizes coords options table spans stripes list bytes work room sound;
      each_ring_of = each;
      entries =
          λ ring points least height stats s l o. stats_entries ring points o.0 o.1 o.2 least height stats s l o.3;
      built_entries =
          λ sizes coords options t sp s l b o k below stats told.
          row_entries sizes coords options o.0 o.1 o.2 o.3 o.4 o.5 o.6 t sp s l b o.7 o.8 k below stats told;
    }
