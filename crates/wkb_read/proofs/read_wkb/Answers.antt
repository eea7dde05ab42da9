use mathlib.Core.Path.{sym, ap, ◌∙◌}
use mathlib.Core.Bool.{Bool, ◌&&◌}
use lib.Ieee.{binary64, of_bits, lt}
use Rattle.std.proofs.lemmas.Result.{err_from_is_err_and}
use Rattle.wkb_shape.proofs.Begins.{shape_laid}
use Rattle.wkb_read.proofs.Rules.{read_bad, read_unshaped, read_faulty, read_fine, read_kept}
use Rattle.wkb_read.proofs.read_wkb.Goals as goal

pub returns-then-not-is_finite-scale : goal.returns-then-not-is_finite-scale
returns-then-not-is_finite-scale c =
    let a = c.args in
    read_bad a.sizes.now a.coords.now a.scale a.bytes.now
    (ap (λ (t : Bool). t && lt (of_bits binary64 0) a.scale) (sym c.is_finite.ensures) ∙ c.if-not-is_finite-scale.true)

pub returns-in_err-order : goal.returns-in_err-order
returns-in_err-order c =
    let a = c.args in
    let p = err_from_is_err_and c.from_residual.result c.from_residual.ensures.1 in
    let good = ap (λ (t : Bool). t && lt (of_bits binary64 0) a.scale) (sym c.is_finite.ensures) ∙ c.if-not-is_finite-scale.false in
    rw (p.1, p.2) (read_unshaped a.sizes.now a.coords.now a.scale a.bytes.now _ good c.in_err-order.ensures)

pub invariant_of-polygon : goal.invariant_of-polygon
invariant_of-polygon c = record { ends = (shape_laid c.args.bytes.now _ _ c.in_ok-order.ensures).ends }

pub store-requires : goal.store-requires
store-requires c =
    let a = c.args in
    let good = ap (λ (t : Bool). t && lt (of_bits binary64 0) a.scale) (sym c.is_finite.ensures) ∙ c.if-not-is_finite-scale.false in
    (read_kept a.sizes.now a.coords.now a.scale a.bytes.now _ _ good c.in_ok-order.ensures (sym c.in_ok-judge.ensures)).1

pub returns-in_err-judge : goal.returns-in_err-judge
returns-in_err-judge c =
    let a = c.args in
    let p = err_from_is_err_and c.from_residual-in_err-judge.result c.from_residual-in_err-judge.ensures.1 in
    let good = ap (λ (t : Bool). t && lt (of_bits binary64 0) a.scale) (sym c.is_finite.ensures) ∙ c.if-not-is_finite-scale.false in
    rw (p.1, p.2) (read_faulty a.sizes.now a.coords.now a.scale a.bytes.now _ _ good c.in_ok-order.ensures _ (sym c.in_err-judge.ensures))

pub returns : goal.returns
returns c =
    let a = c.args in
    let good = ap (λ (t : Bool). t && lt (of_bits binary64 0) a.scale) (sym c.is_finite.ensures) ∙ c.if-not-is_finite-scale.false in
    read_fine a.sizes.now a.coords.now a.scale a.bytes.now _ _ good c.in_ok-order.ensures (sym c.in_ok-judge.ensures) ∙ c.store.ensures
