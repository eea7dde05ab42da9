-- Whatever is given, any two outcomes that meet the promise of a public function here are equal. Assumes nothing.
use mathlib.Core.Path.{◌≡◌, ap, sym, ◌∙◌}
use Rattle.outcome.specs.OneOutcome.{OneOutcome}
use Rattle.capi.specs.contracts.ask_inside.brothstitch_inside
use Rattle.capi.proofs.ask_inside.brothstitch_inside.Reads as brothstitch_inside_reads
use Rattle.capi.specs.contracts.ask_plain.brothstitch_inside_plain
use Rattle.capi.proofs.ask_plain.brothstitch_inside_plain.Reads as brothstitch_inside_plain_reads
use Rattle.capi.specs.contracts.build_indexes.brothstitch_build
use Rattle.capi.proofs.build_indexes.brothstitch_build.Reads as brothstitch_build_reads
use Rattle.capi.specs.contracts.build_stripes.brothstitch_build_stripes
use Rattle.capi.proofs.build_stripes.brothstitch_build_stripes.Reads as brothstitch_build_stripes_reads
use Rattle.capi.specs.contracts.build_tree.brothstitch_build_tree
use Rattle.capi.proofs.build_tree.brothstitch_build_tree.Reads as brothstitch_build_tree_reads
use Rattle.capi.specs.contracts.list_scan.brothstitch_list_scan
use Rattle.capi.proofs.list_scan.brothstitch_list_scan.Reads as brothstitch_list_scan_reads
use Rattle.capi.specs.contracts.list_stripes.brothstitch_list_stripes
use Rattle.capi.proofs.list_stripes.brothstitch_list_stripes.Reads as brothstitch_list_stripes_reads
use Rattle.capi.specs.contracts.list_tree.brothstitch_list_tree
use Rattle.capi.proofs.list_tree.brothstitch_list_tree.Reads as brothstitch_list_tree_reads
use Rattle.capi.specs.contracts.make_record.brothstitch_make
use Rattle.capi.proofs.make_record.brothstitch_make.Reads as brothstitch_make_reads
use Rattle.capi.specs.contracts.outlines.outline_of
use Rattle.capi.proofs.outlines.outline_of.Reads as outline_of_reads
use Rattle.capi.specs.contracts.read_wkb.brothstitch_read_wkb
use Rattle.capi.proofs.read_wkb.brothstitch_read_wkb.Reads as brothstitch_read_wkb_reads
use Rattle.capi.specs.contracts.ring_grid.brothstitch_ring_grid
use Rattle.capi.proofs.ring_grid.brothstitch_ring_grid.Reads as brothstitch_ring_grid_reads
use Rattle.capi.specs.contracts.ring_scan.brothstitch_ring_scan
use Rattle.capi.proofs.ring_scan.brothstitch_ring_scan.Reads as brothstitch_ring_scan_reads
use Rattle.capi.specs.contracts.ring_stripes.brothstitch_ring_stripes
use Rattle.capi.proofs.ring_stripes.brothstitch_ring_stripes.Reads as brothstitch_ring_stripes_reads
use Rattle.capi.specs.contracts.ring_tree.brothstitch_ring_tree
use Rattle.capi.proofs.ring_tree.brothstitch_ring_tree.Reads as brothstitch_ring_tree_reads
use Rattle.capi.specs.contracts.ring_turn.brothstitch_turn
use Rattle.capi.proofs.ring_turn.brothstitch_turn.Reads as brothstitch_turn_reads
use Rattle.capi.specs.contracts.told.is_set
use Rattle.capi.proofs.told.is_set.Reads as is_set_reads
use Rattle.capi.specs.contracts.told.tell_refusal
use Rattle.capi.proofs.told.tell_refusal.Reads as tell_refusal_reads
use Rattle.capi.specs.contracts.told.tell_wkb_refusal
use Rattle.capi.proofs.told.tell_wkb_refusal.Reads as tell_wkb_refusal_reads
use Rattle.capi.specs.contracts.told.tell_answer
use Rattle.capi.proofs.told.tell_answer.Reads as tell_answer_reads
use Rattle.capi.specs.contracts.told.tell_count
use Rattle.capi.proofs.told.tell_count.Reads as tell_count_reads

-- a call's last parameter is `value`, and its promise tells it beside the result
value_last : {Told Value Room : Type 0} {o o' : (Told × Value) × Room} → o ≡ o' → ◌≡◌ {A = Told × (Room × Value)} (o.0.0, (o.1, o.0.1)) (o'.0.0, (o'.1, o'.0.1))
value_last = ap (λ o. (o.0.0, (o.1, o.0.1)))

pub one_brothstitch_inside : OneOutcome brothstitch_inside.ended brothstitch_inside_reads.Post
one_brothstitch_inside _ _ _ _ _ _ p q = sym p ∙ q

pub one_brothstitch_inside_plain : OneOutcome brothstitch_inside_plain.ended brothstitch_inside_plain_reads.Post
one_brothstitch_inside_plain _ _ _ _ _ _ p q = sym p ∙ q

pub one_brothstitch_build : OneOutcome brothstitch_build.ended brothstitch_build_reads.Post
one_brothstitch_build _ _ _ _ _ _ p q = ap (λ o. (o.0.0, (o.1, (o.2, (o.3, (o.4, (o.5, (o.6, o.0.1)))))))) (sym p ∙ q)

pub one_brothstitch_read_wkb : OneOutcome brothstitch_read_wkb.ended brothstitch_read_wkb_reads.Post
one_brothstitch_read_wkb _ _ _ _ _ _ p q = ap (λ o. (o.0.0, (o.2, (o.3, (o.1, o.0.1))))) (sym p ∙ q)

pub one_brothstitch_build_stripes : OneOutcome brothstitch_build_stripes.ended brothstitch_build_stripes_reads.Post
one_brothstitch_build_stripes _ _ _ _ _ _ p q = ap (λ o. (o.0.0, (o.1, (o.2, (o.3, (o.4, o.0.1)))))) (sym p ∙ q)

pub one_brothstitch_build_tree : OneOutcome brothstitch_build_tree.ended brothstitch_build_tree_reads.Post
one_brothstitch_build_tree _ _ _ _ _ _ p q = ap (λ o. (o.0.0, (o.1, (o.2, o.0.1)))) (sym p ∙ q)

pub one_brothstitch_list_scan : OneOutcome brothstitch_list_scan.ended brothstitch_list_scan_reads.Post
one_brothstitch_list_scan _ _ _ _ _ _ p q = value_last (sym p ∙ q)

pub one_brothstitch_list_stripes : OneOutcome brothstitch_list_stripes.ended brothstitch_list_stripes_reads.Post
one_brothstitch_list_stripes _ _ _ _ _ _ p q = value_last (sym p ∙ q)

pub one_brothstitch_list_tree : OneOutcome brothstitch_list_tree.ended brothstitch_list_tree_reads.Post
one_brothstitch_list_tree _ _ _ _ _ _ p q = value_last (sym p ∙ q)

pub one_brothstitch_make : OneOutcome brothstitch_make.ended brothstitch_make_reads.Post
one_brothstitch_make _ _ _ _ _ _ p q = value_last (sym p ∙ q)

pub one_outline_of : OneOutcome outline_of.ended outline_of_reads.Post
one_outline_of _ _ _ _ _ _ p q = p ∙ sym q

pub one_brothstitch_ring_grid : OneOutcome brothstitch_ring_grid.ended brothstitch_ring_grid_reads.Post
one_brothstitch_ring_grid _ _ _ _ _ _ p q = sym p ∙ q

pub one_brothstitch_ring_scan : OneOutcome brothstitch_ring_scan.ended brothstitch_ring_scan_reads.Post
one_brothstitch_ring_scan _ _ _ _ _ _ p q = sym p ∙ q

pub one_brothstitch_ring_stripes : OneOutcome brothstitch_ring_stripes.ended brothstitch_ring_stripes_reads.Post
one_brothstitch_ring_stripes _ _ _ _ _ _ p q = sym p ∙ q

pub one_brothstitch_ring_tree : OneOutcome brothstitch_ring_tree.ended brothstitch_ring_tree_reads.Post
one_brothstitch_ring_tree _ _ _ _ _ _ p q = sym p ∙ q

pub one_brothstitch_turn : OneOutcome brothstitch_turn.ended brothstitch_turn_reads.Post
one_brothstitch_turn _ _ _ _ _ _ p q = sym p ∙ q

pub one_is_set : OneOutcome is_set.ended is_set_reads.Post
one_is_set _ _ _ _ _ _ p q = p ∙ sym q

pub one_tell_refusal : OneOutcome tell_refusal.ended tell_refusal_reads.Post
one_tell_refusal _ _ _ _ _ _ p q = sym p ∙ q

pub one_tell_wkb_refusal : OneOutcome tell_wkb_refusal.ended tell_wkb_refusal_reads.Post
one_tell_wkb_refusal _ _ _ _ _ _ p q = sym p ∙ q

pub one_tell_answer : OneOutcome tell_answer.ended tell_answer_reads.Post
one_tell_answer _ _ _ _ _ _ p q = sym p ∙ q

pub one_tell_count : OneOutcome tell_count.ended tell_count_reads.Post
one_tell_count _ _ _ _ _ _ p q = sym p ∙ q
