-- Refusal 6 is withdrawn: no call of the C interface returns 106, by its own promise, whatever it is lent. Assumes nothing.
use Rattle.std.specs.Prelude.{Ok, Err, Some, None}
use Prim.Native.Nat.{ℕ}
use mathlib.Core.Path.{◌≡◌, ap, ◌∙◌}
use mathlib.Core.Bool.{Bool, true, false, cond, ◌&&◌}
use mathlib.Core.List.{List}
use native.Mathlib.Omega.{arith}
use lib.Dec.{leb}
use lib.ListN.{length, replicate}
use lib.Ieee.{Float}
use Rattle.answers.specs.declared.Refusal.{Refusal}
use Rattle.answers.specs.declared.Refusal.TheVariants.{NoRoom}
use Rattle.answers.specs.Answers.{Answer}
use Rattle.answers.specs.Refusals.{zeroes_rooms}
use Rattle.answers.proofs.Withdrawn.{never_six}
use Rattle.room.specs.Room.{pad}
use Rattle.rings.specs.Listing.{Listed}
use Rattle.turn.specs.Turn.{Turned}
use Rattle.turn.specs.declared.Turning.TheVariants.{Anticlockwise, Clockwise, None as NoTurn}
use Rattle.stripes_build.specs.declared.StripesStats.{StripesStats}
use Rattle.stripes_build.specs.Build.{StripesBuilt}
use Rattle.tree_build.specs.Build.{TreeBuilt}
use Rattle.outline_build.specs.Indexes.{Built}
use Rattle.rings.specs.Listing.{scanned}
use Rattle.grid.specs.Rings.{grid_ring}
use Rattle.turn.specs.Turn.{turned as turn_of}
use Rattle.cast_test.specs.Test.{scan_tested}
use Rattle.stripes_build.specs.Build.{stripes_built}
use Rattle.stripes_find.specs.Listing.{stripes_listed}
use Rattle.stripes_test.specs.Test.{stripes_tested}
use Rattle.tree_find.specs.Find.{tree_listed, tree_tested}
use Rattle.tree_build.specs.Build.{tree_built}
use Rattle.outline_check.specs.Outline.{outline_of}
use Rattle.outline_record.specs.Made.{boxes_made}
use Rattle.outline_ring.specs.RingIndex.{lent}
use Rattle.outline_ask.specs.Inside.{inside_of}
use Rattle.outline_agree.specs.Plain.{plain_inside}
use Rattle.wkb_shape.specs.declared.WkbRefusal.{WkbRefusal}
use Rattle.wkb_shape.specs.declared.WkbRefusal.TheVariants.{Ends, Unknown, Unstored, Plain}
use Rattle.wkb_read.specs.Read.{ReadWkb}
use Rattle.wkb_read.specs.Read.{wkb_read}
use Rattle.outline_build.specs.Indexes.{indexes_built}
use Rattle.capi.specs.Told.{Told, told, refusal_told, answer_told, is_set, point}
use Rattle.capi.specs.Lists.{list_told, stripes_told, tree_told}
use Rattle.capi.specs.Rings.{turn_told}
use Rattle.capi.specs.Stripes.{Outcome, zero_span, span_of, four, striped_told, refused_told, built_all}
use Rattle.capi.specs.Trees.{packed_told, packed_all}
use Rattle.capi.specs.Outlines.{mode_of, made_told}
use Rattle.capi.specs.Indexes.{options_of, indexed_told, indexed_all}
use Rattle.capi.specs.Wkb.{wkb_refusal_told, read_told}
use Rattle.capi.proofs.list_scan.brothstitch_list_scan.Reads as list-scan
use Rattle.capi.proofs.list_stripes.brothstitch_list_stripes.Reads as list-stripes
use Rattle.capi.proofs.list_tree.brothstitch_list_tree.Reads as list-tree
use Rattle.capi.proofs.ring_scan.brothstitch_ring_scan.Reads as ring-scan
use Rattle.capi.proofs.ring_stripes.brothstitch_ring_stripes.Reads as ring-stripes
use Rattle.capi.proofs.ring_tree.brothstitch_ring_tree.Reads as ring-tree
use Rattle.capi.proofs.ring_grid.brothstitch_ring_grid.Reads as ring-grid
use Rattle.capi.proofs.ring_turn.brothstitch_turn.Reads as turn
use Rattle.capi.proofs.build_stripes.brothstitch_build_stripes.Reads as build-stripes
use Rattle.capi.proofs.build_tree.brothstitch_build_tree.Reads as build-tree
use Rattle.capi.proofs.make_record.brothstitch_make.Reads as make
use Rattle.capi.proofs.build_indexes.brothstitch_build.Reads as build
use Rattle.capi.proofs.ask_inside.brothstitch_inside.Reads as inside
use Rattle.capi.proofs.ask_plain.brothstitch_inside_plain.Reads as inside-plain
use Rattle.capi.proofs.read_wkb.brothstitch_read_wkb.Reads as read-wkb

-- what is returned is not 106
abbrev Never : Told → Type 0
Never w = w.0 ≡ 106 → ⊥

refused : (why : Refusal) → Never (refusal_told why)
refused why e = never_six why (omega arith)

answered : (answer : Answer) → Never (answer_told answer)
answered (Ok true) e = omega arith
answered (Ok false) e = omega arith
answered (Err why) e = refused why e

listed : (answer : Listed) → Never (list_told answer)
listed (Ok n) e = omega arith
listed (Err why) e = refused why e

stripes_listed_lem : (answer : Listed) → Never (stripes_told answer)
stripes_listed_lem = listed

tree_listed_lem : (answer : Listed) → Never (tree_told answer)
tree_listed_lem = listed

turned : (answer : Turned) → Never (turn_told answer)
turned (Ok Anticlockwise) e = omega arith
turned (Ok Clockwise) e = omega arith
turned (Ok NoTurn) e = omega arith
turned (Err why) e = refused why e

packed : (answer : TreeBuilt) → Never (packed_told answer)
packed (Ok (Some n)) e = omega arith
packed (Ok None) e = omega arith
packed (Err why) e = refused why e

wkb_refused : (why : WkbRefusal) → Never (wkb_refusal_told why)
wkb_refused (Ends at) e = omega arith
wkb_refused (Unknown at) e = omega arith
wkb_refused (Unstored ring) e = omega arith
wkb_refused (Plain why) e = never_six why (omega arith)

wkb_told_lem : (answer : ReadWkb) → Never (read_told answer)
wkb_told_lem (Ok (rings, numbers)) e = omega arith
wkb_told_lem (Err why) e = wkb_refused why e

indexed : (answer : Built) → Never (indexed_told answer)
indexed (Ok n) e = omega arith
indexed (Err why) e = refused why e

-- the two rooms more of a stripe build may be short, or left alone
one_of : (t : Bool) (a b : Outcome) → Never a.0 → Never b.0 → Never (cond t a b).0
one_of true a b p q = p
one_of false a b p q = q

one_of_two : (t : Bool) (a b : Told × List Float × List ℕ) → Never a.0 → Never b.0 → Never (cond t a b).0
one_of_two true a b p q = p
one_of_two false a b p q = q

striped : (least height : Float) (stats : StripesStats) (stripes list : List ℕ) (span : List Float) (room : List ℕ)
    → Never (striped_told least height stats stripes list span room).0
unfolding striped_told
striped least height stats stripes list span room =
    one_of (leb 2 (length span) && leb 4 (length room))
    ((1, stats.stripes), stripes, list, span_of least height (length span), pad (length room) (four stats))
    (refusal_told NoRoom, replicate (length stripes) 0, replicate (length list) 0, zero_span (length span), replicate (length room) 0)
    (λ (e : ◌≡◌ {A = ℕ} 1 106). omega arith)
    (refused NoRoom)

refused_striped : (why : Refusal) (span : List Float) (room : List ℕ) → Never (refused_told why span room).0
unfolding refused_told
refused_striped why span room =
    one_of_two (zeroes_rooms why) (refusal_told why, zero_span (length span), replicate (length room) 0) (refusal_told why, span, room) (refused why) (refused why)

built : (x : StripesBuilt × List ℕ × List ℕ) (span : List Float) (room : List ℕ) → Never (built_all x span room).0
built (Ok (Some b), stripes, list) span room = striped b.least b.height b.stats stripes list span room
built (Ok None, stripes, list) span room = λ (e : ◌≡◌ {A = ℕ} 0 106). omega arith
built (Err why, stripes, list) span room = refused_striped why span room

packed_all_lem : (x : TreeBuilt × List ℕ × List ℕ) → Never (packed_all x).0
packed_all_lem (answer, bytes, work) = packed answer

indexed_all_lem : (x : Built × List ℕ × List Float × List ℕ × List ℕ × List ℕ × List ℕ) → Never (indexed_all x).0
indexed_all_lem (answer, table, spans, stripes, list, bytes, work) = indexed answer

-- a call that tells an answer and leaves one room
in_room : {A B : Type 0} (f : A → Told) → ((a : A) → Never (f a)) → (x : A × B) → Never (told f x).0
in_room f never (answer, room) = never answer

-- ---- the calls, each on what it is given

never_list_scan : (κs : _) (a : _) (z : _) (e : _) → list-scan.Post κs a z e → z ≡ 106 → ⊥
never_list_scan κs a z e p six =
    in_room list_told listed (scanned a.0.now a.1.0 a.1.1.0 a.1.1.1.0.now) (ap (λ w. w.0.0) p ∙ six)

never_list_stripes : (κs : _) (a : _) (z : _) (e : _) → list-stripes.Post κs a z e → z ≡ 106 → ⊥
never_list_stripes κs a z e p six =
    in_room stripes_told stripes_listed_lem (stripes_listed a.0.now a.1.0 a.1.1.0 a.1.1.1.0 a.1.1.1.1.0.now a.1.1.1.1.1.0.now a.1.1.1.1.1.1.0 a.1.1.1.1.1.1.1.0.now) (ap (λ w. w.0.0) p ∙ six)

never_list_tree : (κs : _) (a : _) (z : _) (e : _) → list-tree.Post κs a z e → z ≡ 106 → ⊥
never_list_tree κs a z e p six =
    in_room tree_told tree_listed_lem (tree_listed a.0.now a.1.0 a.1.1.0.now a.1.1.1.0 a.1.1.1.1.0.now) (ap (λ w. w.0.0) p ∙ six)

never_ring_scan : (κs : _) (a : _) (z : _) (e : _) → ring-scan.Post κs a z e → z ≡ 106 → ⊥
never_ring_scan κs a z e p six =
    answered (scan_tested a.0.now a.1.0 (point a.1.1.0 a.1.1.1.0) (is_set a.1.1.1.1.0)) (ap (λ w. w.0) p ∙ six)

never_ring_stripes : (κs : _) (a : _) (z : _) (e : _) → ring-stripes.Post κs a z e → z ≡ 106 → ⊥
never_ring_stripes κs a z e p six =
    answered (stripes_tested a.0.now a.1.0 a.1.1.0 a.1.1.1.0 a.1.1.1.1.0.now a.1.1.1.1.1.0.now (point a.1.1.1.1.1.1.0 a.1.1.1.1.1.1.1.0) (is_set a.1.1.1.1.1.1.1.1.0)) (ap (λ w. w.0) p ∙ six)

never_ring_tree : (κs : _) (a : _) (z : _) (e : _) → ring-tree.Post κs a z e → z ≡ 106 → ⊥
never_ring_tree κs a z e p six =
    answered (tree_tested a.0.now a.1.0 a.1.1.0.now (point a.1.1.1.0 a.1.1.1.1.0) (is_set a.1.1.1.1.1.0)) (ap (λ w. w.0) p ∙ six)

never_ring_grid : (κs : _) (a : _) (z : _) (e : _) → ring-grid.Post κs a z e → z ≡ 106 → ⊥
never_ring_grid κs a z e p six =
    answered (grid_ring a.0.now a.1.0 a.1.1.0 a.1.1.1.0 (is_set a.1.1.1.1.0)) (ap (λ w. w.0) p ∙ six)

never_turn : (κs : _) (a : _) (z : _) (e : _) → turn.Post κs a z e → z ≡ 106 → ⊥
never_turn κs a z e p six =
    turned (turn_of a.0.now a.1.0) (ap (λ w. w.0) p ∙ six)

never_build_stripes : (κs : _) (a : _) (z : _) (e : _) → build-stripes.Post κs a z e → z ≡ 106 → ⊥
never_build_stripes κs a z e p six =
    built (stripes_built a.0.now a.1.0 a.1.1.0 a.1.1.1.0.now a.1.1.1.1.0.now) a.1.1.1.1.1.0.now a.1.1.1.1.1.1.0.now (ap (λ w. w.0.0) p ∙ six)

never_build_tree : (κs : _) (a : _) (z : _) (e : _) → build-tree.Post κs a z e → z ≡ 106 → ⊥
never_build_tree κs a z e p six =
    packed_all_lem (tree_built a.0.now a.1.0 a.1.1.0 a.1.1.1.0.now a.1.1.1.1.0.now) (ap (λ w. w.0.0) p ∙ six)

never_make : (κs : _) (a : _) (z : _) (e : _) → make.Post κs a z e → z ≡ 106 → ⊥
never_make κs a z e p six =
    in_room made_told listed (boxes_made a.1.1.0 a.0.now a.1.0.now a.1.1.1.1.0.now) (ap (λ w. w.0.0) p ∙ six)

never_build : (κs : _) (a : _) (z : _) (e : _) → build.Post κs a z e → z ≡ 106 → ⊥
never_build κs a z e p six =
    indexed_all_lem (indexes_built a.0.now a.1.0.now (options_of a.1.1.0 a.1.1.1.0) a.1.1.1.1.0.now a.1.1.1.1.1.0.now a.1.1.1.1.1.1.0.now a.1.1.1.1.1.1.1.0.now a.1.1.1.1.1.1.1.1.0.now a.1.1.1.1.1.1.1.1.1.0.now) (ap (λ w. w.0.0) p ∙ six)

never_inside : (κs : _) (a : _) (z : _) (e : _) → inside.Post κs a z e → z ≡ 106 → ⊥
never_inside κs a z e p six =
    answered (inside_of (outline_of a.1.1.1.0 (mode_of a.1.1.1.1.0)) a.0.now a.1.0.now a.1.1.0.now (lent a.1.1.1.1.1.0.now a.1.1.1.1.1.1.0.now a.1.1.1.1.1.1.1.0.now a.1.1.1.1.1.1.1.1.0.now a.1.1.1.1.1.1.1.1.1.0.now) (point a.1.1.1.1.1.1.1.1.1.1.0 a.1.1.1.1.1.1.1.1.1.1.1.0) (is_set a.1.1.1.1.1.1.1.1.1.1.1.1.0)) (ap (λ w. w.0) p ∙ six)

never_inside_plain : (κs : _) (a : _) (z : _) (e : _) → inside-plain.Post κs a z e → z ≡ 106 → ⊥
never_inside_plain κs a z e p six =
    answered (plain_inside (outline_of a.1.1.0 (mode_of a.1.1.1.0)) a.0.now a.1.0.now (point a.1.1.1.1.0 a.1.1.1.1.1.0) (is_set a.1.1.1.1.1.1.0))
    (ap (λ w. w.0) p ∙ six)

never_read_wkb : (κs : _) (a : _) (z : _) (e : _) → read-wkb.Post κs a z e → z ≡ 106 → ⊥
never_read_wkb κs a z e p six = wkb_told_lem (wkb_read a.1.1.0.now a.1.1.1.0.now a.1.0 a.0.now).0 (ap (λ w. w.0.0) p ∙ six)
