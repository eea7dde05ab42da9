-- `tree::pick_of` meets its contract. The invariant: the pick so far is that over the first i + 1 points. Assumes nothing.
use Rattle.std.proofs.Common.{ap₂, ◌∙◌}
use Rattle.rings.specs.Ring.{wide}
use Rattle.tree.proofs.Extremes.{picked_first, picked_next}
use Rattle.tree.proofs.pick_of.Goals as goal

pub loop-i-init : goal.loop-i-init
loop-i-init g c = λ t h. c.coordinate-so_far.ensures ∙ picked_first (wide c.args.coords.now) c.args.offset t

pub loop-i-preserved : goal.loop-i-preserved
loop-i-preserved g c = λ t h.
    h _ _ _ c.pick-so_far.ensures
    ∙ ap₂ t (c.loop-i.invariant t h) c.coordinate.ensures
    ∙ picked_next (wide c.args.coords.now) c.args.offset t c.loop-i.i
