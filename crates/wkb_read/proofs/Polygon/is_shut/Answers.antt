use mathlib.Core.Path.{sym, ap₂, ◌∙◌}
use mathlib.Core.Bool.{◌&&◌}
use mir.Syntax.{w64}
use Rattle.rings.proofs.Whole.{eq_bits}
use Rattle.wkb_read.proofs.Walk.{shut_none, shut_some}
use Rattle.wkb_read.proofs.Polygon.is_shut.Goals as goal

pub returns-then-n-lt1 : goal.returns-then-n-lt1
returns-then-n-lt1 c = let a = c.args in shut_none a.self.bytes.now a.self.order a.self.scale a.n a.start c.if-n-lt1.true

pub returns : goal.returns
returns c =
    let a = c.args in
    ap₂ ◌&&◌
    (eq_bits w64 c.rounded-x.result c.rounded.result (record { sfits = c.rounded-x.type_inv }) (record { sfits = c.rounded.type_inv }))
    (eq_bits w64 c.rounded-y.result c.rounded-2.result (record { sfits = c.rounded-y.type_inv }) (record { sfits = c.rounded-2.type_inv }))
    ∙ rw (c.rounded-x.ensures, c.rounded-y.ensures, c.rounded.ensures, c.rounded-2.ensures)
    (sym (shut_some a.self.bytes.now a.self.order a.self.scale a.n a.start c.if-n-lt1.false))
