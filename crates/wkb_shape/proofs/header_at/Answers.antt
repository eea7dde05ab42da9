use mathlib.Core.Path.{sym, ◌∙◌}
use Rattle.std.proofs.lemmas.Result.{err_from_is_err_and}
use Rattle.wkb_shape.proofs.Begins.{order_within, type_within, header_unordered, header_stopped, header_counted}
use Rattle.wkb_shape.proofs.header_at.Goals as goal

pub invariant_of-reader : goal.invariant_of-reader
invariant_of-reader c = record { within = order_within c.args.bytes.now c.args.at _ _ (sym c.in_ok-order.ensures) }

pub invariant_of-reader-2 : goal.invariant_of-reader-2
invariant_of-reader-2 c = record { within = (type_within c.args.bytes.now _ _ _ (sym c.in_ok-reader.ensures)).0 }

pub returns-in_err-order : goal.returns-in_err-order
returns-in_err-order c =
    let p = err_from_is_err_and c.from_residual.result c.from_residual.ensures.1 in
    rw (p.1, p.2) (header_unordered c.args.bytes.now c.args.at _ (sym c.in_err-order.ensures))

pub returns-in_err-reader : goal.returns-in_err-reader
returns-in_err-reader c =
    let p = err_from_is_err_and c.from_residual-in_err-reader.result c.from_residual-in_err-reader.ensures.1 in
    rw (p.1, p.2) (header_stopped c.args.bytes.now c.args.at _ _ _ (sym c.in_ok-order.ensures) (sym c.in_err-reader.ensures))

pub returns : goal.returns
returns c = c.count.ensures ∙ header_counted c.args.bytes.now c.args.at _ _ _ (sym c.in_ok-order.ensures) (sym c.in_ok-reader.ensures)
