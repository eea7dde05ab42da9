use mathlib.Core.Path.{sym}
use Rattle.std.proofs.lemmas.Result.{err_from_is_err_and}
use Rattle.wkb_shape.proofs.Begins.{header_within, shape_unheaded, shape_stopped, shape_over, shape_whole}
use Rattle.wkb_shape.proofs.shape.Goals as goal

pub invariant_of-reader : goal.invariant_of-reader
invariant_of-reader c = record { within = (header_within c.args.bytes.now 0 _ _ _ (sym c.in_ok-order.ensures)).0 }

pub returns-in_err-order : goal.returns-in_err-order
returns-in_err-order c =
    let p = err_from_is_err_and c.from_residual.result c.from_residual.ensures.1 in
    rw (p.1, p.2) (shape_unheaded c.args.bytes.now _ (sym c.in_err-order.ensures))

pub returns-in_err-end : goal.returns-in_err-end
returns-in_err-end c =
    let p = err_from_is_err_and c.from_residual-in_err-end.result c.from_residual-in_err-end.ensures.1 in
    rw (p.1, p.2) (shape_stopped c.args.bytes.now _ _ _ _ (sym c.in_ok-order.ensures) (sym c.in_err-end.ensures))

pub returns-then-end-bytes : goal.returns-then-end-bytes
returns-then-end-bytes c = shape_whole c.args.bytes.now _ _ _ _ (sym c.in_ok-order.ensures) (sym c.in_ok-end.ensures) c.if-end-bytes.true

pub returns-else-end-bytes : goal.returns-else-end-bytes
returns-else-end-bytes c = shape_over c.args.bytes.now _ _ _ _ (sym c.in_ok-order.ensures) (sym c.in_ok-end.ensures) c.if-end-bytes.false
