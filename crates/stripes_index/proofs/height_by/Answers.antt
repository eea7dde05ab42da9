-- `stripes_index::height_by` meets its contract. The invariant: it holds of the first i segments. Assumes nothing.
use Rattle.std.proofs.Common.{◌≡◌, add-one, arith}
use Rattle.stripes_index.specs.Inner.States.{picked}
use Rattle.stripes_index.proofs.height_by.Goals as goal

pub loop-i-init : goal.loop-i-init
unfolding picked
loop-i-init g c = λ better h. c.coordinate-height.ensures

pub loop-i-preserved : goal.loop-i-preserved
unfolding picked
loop-i-preserved g c = λ better h. simp (add-one, h _ _ _ c.pick-height.ensures, h _ _ _ c.end_by.ensures, c.loop-i.invariant better h)

pub returns : goal.returns
returns g c = λ better h.
    let last : c.loop-i.i ≡ c.args.n = omega arith in
    rw (← last) (c.loop-i.invariant better h)
