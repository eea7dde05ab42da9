-- `tree_grow::own_size` meets its contract. The invariant: what is counted and what is to come are the whole. Assumes nothing.
use lib.ListN.{length}
use Rattle.tree_grow.proofs.Own.{encode_ten, own_start, own_more, own_done}
use native.Mathlib.Omega.{arith}
use Rattle.tree_grow.proofs.own_size.Goals as goal

pub loop-x-init : goal.loop-x-init
loop-x-init c =
    let run = c.args.run.now in
    let e = c.uvarint_len-size.ensures in
    (omega (arith, e, own_start run), omega (arith, e, encode_ten (length run) (omega arith)))

pub loop-x-preserved : goal.loop-x-preserved
loop-x-preserved c =
    let l = c.loop-x in
    (omega (arith, own_more c.args.run.now l.last l.x-index c.loop-x-test.true), omega arith)

pub returns : goal.returns
returns c =
    let l = c.loop-x in
    (omega (arith, own_done c.args.run.now l.last l.x-index c.loop-x-test.false), omega arith)
