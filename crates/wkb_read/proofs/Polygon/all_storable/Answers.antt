use Rattle.std.proofs.Common.{◌≡◌, ◌-◌, rules, tests, arith, refl, ◌∙◌}
use Rattle.std.proofs.lemmas.Iterator.{YieldsList-from_range}
use Rattle.std.proofs.lemmas.Iterator.Search.{all_from_yields_List}
use Rattle.wkb_read.proofs.Put.{point_ok, points_ok}
use Rattle.wkb_read.proofs.Polygon.all_storable.Goals as goal

pub returns : goal.returns
returns c =
    let a = c.args in
    let s = a.self in
    let whole : a.n - 0 ≡ a.n = omega arith in
    let asked = all_from_yields_List (point_ok s.bytes.now s.order s.scale a.start) _ _ c.all.result c.all.ensures.ran (YieldsList-from_range 0 a.n a.n refl whole) (λ x b q k. search (rules, tests)) in
    asked ∙ points_ok s.bytes.now s.order s.scale a.start a.n 0 a.start (omega arith)
