-- Whatever is given, any two outcomes that meet the promise of a public function here are equal. Assumes nothing.
use mathlib.Core.Path.{sym, ◌∙◌}
use Rattle.outcome.specs.OneOutcome.{OneOutcome}
use Rattle.outline_record.specs.contracts.make_boxes
use Rattle.outline_record.proofs.make_boxes.Reads as make_boxes_reads
use Rattle.outline_record.specs.contracts.rect_at
use Rattle.outline_record.proofs.rect_at.Reads as rect_at_reads
use Rattle.outline_record.specs.contracts.rect
use Rattle.outline_record.proofs.rect.Reads as rect_reads
use Rattle.outline_record.specs.contracts.grid_box_holds
use Rattle.outline_record.proofs.grid_box_holds.Reads as grid_box_holds_reads
use Rattle.outline_record.specs.contracts.ring_count
use Rattle.outline_record.proofs.ring_count.Reads as ring_count_reads
use Rattle.outline_record.specs.contracts.hole_count
use Rattle.outline_record.proofs.hole_count.Reads as hole_count_reads
use Rattle.outline_record.specs.contracts.point_count
use Rattle.outline_record.proofs.point_count.Reads as point_count_reads

pub one_make_boxes : OneOutcome make_boxes.ended make_boxes_reads.Post
one_make_boxes _ _ _ _ _ _ p q = sym p ∙ q

pub one_rect_at : OneOutcome rect_at.ended rect_at_reads.Post
one_rect_at _ _ _ _ _ _ p q = p ∙ sym q

pub one_rect : OneOutcome rect.ended rect_reads.Post
one_rect _ _ _ _ _ _ p q = p ∙ sym q

pub one_grid_box_holds : OneOutcome grid_box_holds.ended grid_box_holds_reads.Post
one_grid_box_holds _ _ _ _ _ _ p q = p ∙ sym q

pub one_ring_count : OneOutcome ring_count.ended ring_count_reads.Post
one_ring_count _ _ _ _ _ _ p q = p ∙ sym q

pub one_hole_count : OneOutcome hole_count.ended hole_count_reads.Post
one_hole_count _ _ _ _ _ _ p q = p ∙ sym q

pub one_point_count : OneOutcome point_count.ended point_count_reads.Post
one_point_count _ _ _ _ _ _ p q = p ∙ sym q
