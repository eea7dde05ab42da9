-- `stripes_test::test_in` meets its contract. Assumes nothing.
use mathlib.Core.Path.{sym, ap, ◌∙◌}
use native.Mathlib.Omega.{arith}
use Rattle.std.specs.Prelude.{Err}
use Rattle.answers.proofs.Refused.{refused}
use Rattle.rings.specs.Ring.{wide}
use Rattle.rings.specs.RingTest.{test_from}
use Rattle.stripes_find.proofs.Pouring.{searched_outside, searched_broken, searched_run}
use Rattle.stripes_test.specs.Test.{verdict}
use Rattle.stripes_test.proofs.test_in.Goals as goal

pub returns-then-is_outside : goal.returns-then-is_outside
unfolding test_from
returns-then-is_outside c =
    let a = c.args in
    ap (verdict (wide a.ring.now) a.p a.edge)
    (sym (searched_outside (wide a.ring.now) a.n a.index.least a.index.height a.index.stripes.now a.index.list.now a.p.y (sym c.is_outside.ensures ∙ c.if-is_outside.true)))

pub test_run-requires : goal.test_run-requires
test_run-requires c =
    let a = c.args in
    let i = a.index in
    let r = searched_run (wide a.ring.now) a.n i.least i.height i.stripes.now i.list.now a.p.y _ _ (sym c.is_outside.ensures ∙ c.if-is_outside.false) (sym c.in_ok-start.ensures) in
    (omega arith, r.1, r.2)

pub returns-in_err-start : goal.returns-in_err-start
returns-in_err-start c =
    let a = c.args in
    let i = a.index in
    let r = searched_broken (wide a.ring.now) a.n i.least i.height i.stripes.now i.list.now a.p.y _ (sym c.is_outside.ensures ∙ c.if-is_outside.false) (sym c.in_err-start.ensures) in
    refused c.from_residual.result c.from_residual.ensures.1 ∙ ap Err r.1 ∙ sym (ap (verdict (wide a.ring.now) a.p a.edge) r.2)

pub returns : goal.returns
returns c =
    let a = c.args in
    let i = a.index in
    let r = searched_run (wide a.ring.now) a.n i.least i.height i.stripes.now i.list.now a.p.y _ _ (sym c.is_outside.ensures ∙ c.if-is_outside.false) (sym c.in_ok-start.ensures) in
    c.test_run.ensures ∙ sym (ap (verdict (wide a.ring.now) a.p a.edge) r.0)
