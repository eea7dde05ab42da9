-- `outline_record::pick_of` meets its contract. The invariant: the pick so far is that over the first i + 1 points. Assumes nothing.
use Rattle.std.proofs.Common.{◌≡◌, ◌+◌, ◌*◌, ap₂, ◌∙◌, rules, arith, get_or, pos, to_z, of_z, w32}
use Rattle.outline_record.proofs.Extremes.{picked_first, picked_next}
use Rattle.outline_record.proofs.pick_of.Goals as goal

pub loop-i-init : goal.loop-i-init
loop-i-init g c = λ t h.
    let first = get_or c.args.coords.now c.args.offset (pos 0) in
    let is : to_z w32 (of_z w32 first) ≡ first = search rules in
    is ∙ picked_first c.args.coords.now c.args.offset t

pub loop-i-preserved : goal.loop-i-preserved
loop-i-preserved g c = λ t h.
    let next = get_or c.args.coords.now ((c.loop-i.i + 1) * 2 + c.args.offset) (pos 0) in
    let is : to_z w32 (of_z w32 c.pick-so_far.result) ≡ c.pick-so_far.result = search rules in
    let next_is : to_z w32 (of_z w32 next) ≡ next = search rules in
    is
    ∙ h _ _ _ c.pick-so_far.ensures
    ∙ ap₂ t (c.loop-i.invariant t h) next_is
    ∙ picked_next c.args.coords.now c.args.offset t c.loop-i.i

pub returns : goal.returns
returns g c = λ t h.
    let last : c.loop-i.i ≡ c.args.last = omega arith in
    rw (← last) (c.loop-i.invariant t h)
