use mathlib.Core.Path.{sym}
use Rattle.std.proofs.lemmas.Result.{err_from_is_err_and}
use Rattle.wkb_shape.specs.Inner.Laid.{header_told}
use Rattle.wkb_shape.proofs.Reading.{field_read, field_missed}
use Rattle.wkb_shape.proofs.Begins.{count_cut, count_read}
use Rattle.wkb_shape.proofs.Reader.count.Goals as goal

pub returns-in_err-n : goal.returns-in_err-n
unfolding header_told
returns-in_err-n c =
    let a = c.args in
    let p = err_from_is_err_and c.from_residual.result c.from_residual.ensures.1 in
    let m = field_missed a.self.bytes.now a.self.order 4 a.self.at _ (sym c.in_err-n.ensures) in
    rw (p.1, p.2, m.1, count_cut a.self.bytes.now a.self.at a.self.order m.0)

pub returns : goal.returns
unfolding header_told
returns c =
    let a = c.args in
    let f = field_read a.self.bytes.now a.self.order 4 a.self.at _ (sym c.in_ok-n.ensures) in
    rw (count_read a.self.bytes.now a.self.at a.self.order f.0, f.1)
