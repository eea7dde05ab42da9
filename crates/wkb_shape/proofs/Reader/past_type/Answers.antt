use mathlib.Core.Path.{sym, ◌∙◌}
use Rattle.std.proofs.lemmas.Result.{err_from_is_err_and}
use Rattle.wkb_shape.specs.Inner.Laid.{end_of}
use Rattle.wkb_shape.proofs.Reading.{field_read, field_missed}
use Rattle.wkb_shape.proofs.Begins.{type_cut, type_other, type_polygon}
use Rattle.wkb_shape.proofs.Reader.past_type.Goals as goal

pub returns-in_err-kind : goal.returns-in_err-kind
unfolding end_of
returns-in_err-kind c =
    let a = c.args in
    let p = err_from_is_err_and c.from_residual.result c.from_residual.ensures.1 in
    let m = field_missed a.self.bytes.now a.self.order 4 a.self.at _ (sym c.in_err-kind.ensures) in
    rw (p.1, p.2, m.1, type_cut a.self.bytes.now a.self.at a.self.order m.0)

pub returns-then-kind-ne-POLYGON : goal.returns-then-kind-ne-POLYGON
unfolding end_of
returns-then-kind-ne-POLYGON c =
    let a = c.args in
    let f = field_read a.self.bytes.now a.self.order 4 a.self.at _ (sym c.in_ok-kind.ensures) in
    rw (type_other a.self.bytes.now a.self.at a.self.order f.0 (λ e. c.if-kind-ne-POLYGON.true (sym f.1 ∙ e)))

pub returns : goal.returns
unfolding end_of
returns c =
    let a = c.args in
    let f = field_read a.self.bytes.now a.self.order 4 a.self.at _ (sym c.in_ok-kind.ensures) in
    rw (type_polygon a.self.bytes.now a.self.at a.self.order f.0 (f.1 ∙ c.if-kind-ne-POLYGON.false))
