-- The loop's invariant: the ring test from segment i on, with the answer so far, is the whole ring test.
use mathlib.Core.Path.{◌≡◌, refl, sym, ◌∙◌}
use mathlib.Core.Bool.{true, false}
use mir.Facts.{to_z-of_z}
use Rattle.rings.proofs.RingTest.{test_done, test_on, test_flip, test_pass}
use Rattle.rings.specs.Ring.{segment_at}
use Rattle.grid.specs.Grid.{grid_result}
use Rattle.grid.specs.Rings.{on_at, flip_at}
use Rattle.grid.proofs.Results.{told_on, told_flips, told_passes}
use Rattle.grid.proofs.grid_in.Invariants.{rest}
use Rattle.grid.proofs.grid_in.Goals as goal
use Rattle.grid.proofs.grid_in.Goals.{in-Flips, in-Passes, After-grid_test, At-loop-i}

-- what the test said of segment i
said : (c : After-grid_test) → let b = c in
    c.grid_test.result ≡ grid_result (segment_at b.args.coords.now c.loop-i.i) b.args.px b.args.py
said c = let f = c.ranges in
    rw (c.segment_at.ensures, to_z-of_z f.px, to_z-of_z f.py) at c.grid_test.ensures

-- the invariant at the head of the loop, at the point itself
whole : (c : At-loop-i) → let a = c.args in
    rest a.coords.now a.n a.px a.py a.edge c.loop-i.answer c.loop-i.i ≡ rest a.coords.now a.n a.px a.py a.edge false 0
whole c = let f = c.ranges in rw (to_z-of_z f.px, to_z-of_z f.py) at c.loop-i.invariant

pub returns-in-OnSegment : goal.returns-in-OnSegment
returns-in-OnSegment c =
    let b = c in
    let at = b in
    let a = at.args in
    let l = at.loop-i in
    let on = told_on (on_at a.coords.now a.px a.py l.i) (flip_at a.coords.now a.px a.py l.i) (sym (said (goal.at.returns-in-OnSegment b).After-grid_test) ∙ c.in-OnSegment.is) in
    sym (test_on (on_at a.coords.now a.px a.py) (flip_at a.coords.now a.px a.py) a.edge l.answer (λ j. true) a.n l.i b.loop-i-test.true refl on) ∙ whole (goal.at.returns-in-OnSegment at).At-loop-i

pub loop-i-preserved : goal.loop-i-preserved
loop-i-preserved c =
    let a = c.args in
    let l = c.loop-i in
    let more = c.loop-i-test.true in
    let result = said (goal.at.loop-i-preserved c).After-grid_test in
    let so-far = whole (goal.at.loop-i-preserved c).At-loop-i in
    let on = on_at a.coords.now a.px a.py in
    let flip = flip_at a.coords.now a.px a.py in
    elim c.match-grid_test.branch [
      | in-Flips w ↦
          let t = told_flips (on l.i) (flip l.i) (sym result ∙ w.in-Flips.is) in
          rw (w.answer-is, to_z-of_z c.ranges.px, to_z-of_z c.ranges.py) (sym (test_flip on flip a.edge l.answer (λ j. true) a.n l.i more refl t.0 t.1) ∙ so-far)
      | in-Passes w ↦
          let t = told_passes (on l.i) (flip l.i) (sym result ∙ w.in-Passes.is) in
          rw (w.answer-is, to_z-of_z c.ranges.px, to_z-of_z c.ranges.py) (sym (test_pass on flip a.edge l.answer (λ j. true) a.n l.i more refl t.0 t.1) ∙ so-far)
    ]

pub returns : goal.returns
returns c =
    let a = c.args in
    let l = c.loop-i in
    sym (test_done (on_at a.coords.now a.px a.py) (flip_at a.coords.now a.px a.py) a.edge l.answer (λ j. true) a.n l.i c.loop-i-test.false) ∙ whole (goal.at.returns c).At-loop-i
