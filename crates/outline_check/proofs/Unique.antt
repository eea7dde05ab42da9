-- Whatever is given, any two outcomes that meet the promise of a public function here are equal. Assumes nothing.
use mathlib.Core.Path.{sym, ◌∙◌}
use Rattle.outcome.specs.OneOutcome.{OneOutcome}
use Rattle.outline_check.specs.contracts.Outline.new
use Rattle.outline_check.proofs.Outline.new.Reads as new_reads
use Rattle.outline_check.specs.contracts.Outline.new_with_mode
use Rattle.outline_check.proofs.Outline.new_with_mode.Reads as new_with_mode_reads
use Rattle.outline_check.specs.contracts.Outline.scale
use Rattle.outline_check.proofs.Outline.scale.Reads as scale_reads
use Rattle.outline_check.specs.contracts.Outline.mode
use Rattle.outline_check.proofs.Outline.mode.Reads as mode_reads
use Rattle.outline_check.specs.contracts.check_outline_with
use Rattle.outline_check.proofs.check_outline_with.Reads as check_outline_with_reads
use Rattle.outline_check.specs.contracts.check_shape
use Rattle.outline_check.proofs.check_shape.Reads as check_shape_reads
use Rattle.outline_check.specs.contracts.check_outline
use Rattle.outline_check.proofs.check_outline.Reads as check_outline_reads

pub one_new : OneOutcome new.ended new_reads.Post
one_new _ _ _ _ _ _ p q = p ∙ sym q

pub one_new_with_mode : OneOutcome new_with_mode.ended new_with_mode_reads.Post
one_new_with_mode _ _ _ _ _ _ p q = p ∙ sym q

pub one_scale : OneOutcome scale.ended scale_reads.Post
one_scale _ _ _ _ _ _ p q = p ∙ sym q

pub one_mode : OneOutcome mode.ended mode_reads.Post
one_mode _ _ _ _ _ _ p q = p ∙ sym q

pub one_check_outline_with : OneOutcome check_outline_with.ended check_outline_with_reads.Post
one_check_outline_with _ _ _ _ _ _ p q = p ∙ sym q

pub one_check_shape : OneOutcome check_shape.ended check_shape_reads.Post
one_check_shape _ _ _ _ _ _ p q = p ∙ sym q

pub one_check_outline : OneOutcome check_outline.ended check_outline_reads.Post
one_check_outline _ _ _ _ _ _ p q = p ∙ sym q
