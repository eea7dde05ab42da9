-- `stripes_test::test_run` meets its contract. The invariant is `Testing`. Assumes nothing.
use mathlib.Core.Path.{◌≡◌, sym, ap, ◌∙◌}
use lib.Seq.{slice}
use native.Mathlib.Omega.{arith}
use Rattle.answers.specs.Answers.{said}
use Rattle.rings.specs.Ring.{wide, side_at, holds_height}
use Rattle.stripes_find.specs.Search.{Ending, found_in}
use Rattle.cast_test.specs.Test.{test_of}
use Rattle.stripes_test.specs.Test.{unless}
use Rattle.cast_test.specs.Inner.Steps.{Seen}
use Rattle.stripes_test.proofs.Steps.{ended, testing_start, testing_more, testing_broken, testing_done}
use Rattle.stripes_test.proofs.test_run.Goals as goal

pub loop-at-init : goal.loop-at-init
loop-at-init c = testing_start _ _ _ _ _ _ _

pub returns-then-n-i : goal.returns-then-n-i
returns-then-n-i c =
    let l = c.loop-at in
    let a = c.args in
    rw
    (testing_broken (wide a.ring.now) a.p a.edge a.n a.list.now a.start a.past l.seen l.at c.wide-i.result l.invariant
    c.loop-at-test.true c.requires.2 c.wide-i.ensures c.if-n-i.true)

pub loop-at-preserved : goal.loop-at-preserved
loop-at-preserved c =
    let l = c.loop-at in
    let a = c.args in
    rw c.step-seen.ensures
    (testing_more (wide a.ring.now) a.p a.edge a.n a.list.now a.start a.past l.seen l.at c.wide-i.result l.invariant
    c.loop-at-test.true c.requires.2 c.wide-i.ensures c.if-n-i.false)

pub returns-in-Continue : goal.returns-in-Continue
returns-in-Continue c =
    let l = c.loop-at in
    let a = c.args in
    let last : l.at ≡ a.past = omega arith in
    let d = testing_done (wide a.ring.now) a.p a.edge a.n a.list.now a.start a.past l.seen l.at l.invariant last in
    ap said (sym (ap (λ (s : Seen). ended s a.edge) c.in-Continue.is) ∙ d.0)
    ∙ ap (λ (e : Ending). unless e (said (test_of (wide a.ring.now) a.p a.edge (found_in a.n (λ i. holds_height (side_at (wide a.ring.now) i) a.p.y) (slice a.start a.past a.list.now))))) (sym d.1)

pub returns-in-Break : goal.returns-in-Break
returns-in-Break c =
    let l = c.loop-at in
    let a = c.args in
    let last : l.at ≡ a.past = omega arith in
    let d = testing_done (wide a.ring.now) a.p a.edge a.n a.list.now a.start a.past l.seen l.at l.invariant last in
    ap said (sym (ap (λ (s : Seen). ended s a.edge) c.in-Break.is) ∙ d.0)
    ∙ ap (λ (e : Ending). unless e (said (test_of (wide a.ring.now) a.p a.edge (found_in a.n (λ i. holds_height (side_at (wide a.ring.now) i) a.p.y) (slice a.start a.past a.list.now))))) (sym d.1)
