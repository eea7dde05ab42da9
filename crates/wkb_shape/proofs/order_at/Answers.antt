use Rattle.std.proofs.Common.{◌≡◌, rules, arith, get_or}
use Rattle.wkb_shape.specs.Inner.Laid.{order_told}
use Rattle.wkb_shape.proofs.Begins.{order_cut, order_big, order_little, order_unknown}
use Rattle.wkb_shape.proofs.order_at.Goals as goal

pub returns-then-bytes-at : goal.returns-then-bytes-at
unfolding order_told
returns-then-bytes-at c = rw (order_cut c.args.bytes.now c.args.at c.if-bytes-at.true)

pub returns-in-0 : goal.returns-in-0
unfolding order_told
returns-in-0 c = let s = c in rw (order_big s.args.bytes.now s.args.at (omega arith) c.in-0.is)

pub returns-in-1 : goal.returns-in-1
unfolding order_told
returns-in-1 c = let s = c in rw (order_little s.args.bytes.now s.args.at (omega arith) c.in-1.is)

pub returns-in_default : goal.returns-in_default
unfolding order_told
returns-in_default c =
    let a = c.args in
    let no_big : get_or a.bytes.now a.at 0 ≡ 0 → ⊥ = search rules in
    let no_little : get_or a.bytes.now a.at 0 ≡ 1 → ⊥ = search rules in
    rw (order_unknown a.bytes.now a.at (omega arith) no_big no_little)
