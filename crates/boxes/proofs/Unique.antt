-- Whatever is given, any two outcomes that meet the promise of a public function here are equal. Assumes nothing.
use mathlib.Core.Path.{sym, ◌∙◌}
use Rattle.outcome.specs.OneOutcome.{OneOutcome}
use Rattle.boxes.specs.contracts.Rect.contains_point
use Rattle.boxes.proofs.Rect.contains_point.Reads as contains_point_reads
use Rattle.boxes.specs.contracts.Rect.intersects_rect
use Rattle.boxes.proofs.Rect.intersects_rect.Reads as intersects_rect_reads
use Rattle.boxes.specs.contracts.Rect.nw
use Rattle.boxes.proofs.Rect.nw.Reads as nw_reads
use Rattle.boxes.specs.contracts.Rect.sw
use Rattle.boxes.proofs.Rect.sw.Reads as sw_reads
use Rattle.boxes.specs.contracts.Rect.se
use Rattle.boxes.proofs.Rect.se.Reads as se_reads
use Rattle.boxes.specs.contracts.Rect.ne
use Rattle.boxes.proofs.Rect.ne.Reads as ne_reads
use Rattle.boxes.specs.contracts.Rect.south
use Rattle.boxes.proofs.Rect.south.Reads as south_reads
use Rattle.boxes.specs.contracts.Rect.east
use Rattle.boxes.proofs.Rect.east.Reads as east_reads
use Rattle.boxes.specs.contracts.Rect.north
use Rattle.boxes.proofs.Rect.north.Reads as north_reads
use Rattle.boxes.specs.contracts.Rect.west
use Rattle.boxes.proofs.Rect.west.Reads as west_reads
use Rattle.boxes.specs.contracts.Rect.segment_at
use Rattle.boxes.proofs.Rect.segment_at.Reads as segment_at_reads
use Rattle.boxes.specs.contracts.I32Point.point
use Rattle.boxes.proofs.I32Point.point.Reads as point_reads
use Rattle.boxes.specs.contracts.Segment.rect
use Rattle.boxes.proofs.Segment.rect.Reads as rect_reads
use Rattle.boxes.specs.contracts.choose_quad
use Rattle.boxes.proofs.choose_quad.Reads as choose_quad_reads
use Rattle.boxes.specs.contracts.quad_bounds
use Rattle.boxes.proofs.quad_bounds.Reads as quad_bounds_reads

pub one_contains_point : OneOutcome contains_point.ended contains_point_reads.Post
one_contains_point _ _ _ _ _ _ p q = p ∙ sym q

pub one_intersects_rect : OneOutcome intersects_rect.ended intersects_rect_reads.Post
one_intersects_rect _ _ _ _ _ _ p q = p ∙ sym q

pub one_nw : OneOutcome nw.ended nw_reads.Post
one_nw _ _ _ _ _ _ p q = p ∙ sym q

pub one_sw : OneOutcome sw.ended sw_reads.Post
one_sw _ _ _ _ _ _ p q = p ∙ sym q

pub one_se : OneOutcome se.ended se_reads.Post
one_se _ _ _ _ _ _ p q = p ∙ sym q

pub one_ne : OneOutcome ne.ended ne_reads.Post
one_ne _ _ _ _ _ _ p q = p ∙ sym q

pub one_south : OneOutcome south.ended south_reads.Post
one_south _ _ _ _ _ _ p q = p ∙ sym q

pub one_east : OneOutcome east.ended east_reads.Post
one_east _ _ _ _ _ _ p q = p ∙ sym q

pub one_north : OneOutcome north.ended north_reads.Post
one_north _ _ _ _ _ _ p q = p ∙ sym q

pub one_west : OneOutcome west.ended west_reads.Post
one_west _ _ _ _ _ _ p q = p ∙ sym q

pub one_segment_at : OneOutcome segment_at.ended segment_at_reads.Post
one_segment_at _ _ _ _ _ _ p q = p ∙ sym q

pub one_point : OneOutcome point.ended point_reads.Post
one_point _ _ _ _ _ _ p q = p ∙ sym q

pub one_rect : OneOutcome rect.ended rect_reads.Post
one_rect _ _ _ _ _ _ p q = p ∙ sym q

pub one_choose_quad : OneOutcome choose_quad.ended choose_quad_reads.Post
one_choose_quad _ _ _ _ _ _ p q = p ∙ sym q

pub one_quad_bounds : OneOutcome quad_bounds.ended quad_bounds_reads.Post
one_quad_bounds _ _ _ _ _ _ p q = p ∙ sym q
