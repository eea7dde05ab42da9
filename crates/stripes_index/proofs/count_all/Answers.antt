-- `stripes_index::count_all` meets its contract. The invariant: the first i segments are counted. Assumes nothing.
use mathlib.Core.Path.{◌≡◌, ◌∙◌}
use native.Mathlib.Omega.{arith}
use Rattle.rings.specs.Ring.{wide}
use Rattle.stripes_index.specs.Index.{crosses}
use Rattle.stripes_index.proofs.Entering.{counts_zero}
use Rattle.stripes_index.proofs.count_all.Goals as goal

pub loop-i-init : goal.loop-i-init
loop-i-init c =
    let a = c.args in
    let p = c.requires in
    p.stripes_value ∙ counts_zero (crosses (wide a.ring.now) a.cut.least a.cut.height a.cut.stripes) a.cut.stripes _ p.n_bound.3

pub count_segment-requires-clause-stripes_value : goal.count_segment-requires-clause-stripes_value
count_segment-requires-clause-stripes_value c = rw c.loop-i.auto.stripes c.loop-i.invariant

pub loop-i-preserved : goal.loop-i-preserved
loop-i-preserved c = rw (← c.loop-i.auto.stripes) c.count_segment.ensures

pub returns : goal.returns
returns c =
    let last : c.loop-i.i ≡ c.args.n = omega arith in
    rw (← last) c.loop-i.invariant
