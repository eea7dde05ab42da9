-- `stripes_count::sum_over` meets its contract. The invariant: what is summed so far is the sum over the first i segments. Assumes nothing.
use Rattle.std.proofs.Common.{◌≡◌, refl, add-one, arith}
use Rattle.stripes_count.specs.Count.{sum_to}
use Rattle.stripes_count.proofs.sum_over.Goals as goal

pub loop-i-init : goal.loop-i-init
unfolding sum_to
loop-i-init g c = λ t h. refl

pub loop-i-preserved : goal.loop-i-preserved
unfolding sum_to
loop-i-preserved g c = λ t h. simp (add-one, h _ _ c.term-sum.ensures, c.at.ensures, c.loop-i.invariant t h)

pub returns : goal.returns
returns g c = λ t h.
    let last : c.loop-i.i ≡ c.args.segments = omega arith in
    rw (← last) (c.loop-i.invariant t h)
