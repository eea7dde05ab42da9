-- `tree_pack::put_own` meets its contract. Assumes nothing.
use mathlib.Core.Path.{ap}
use native.Mathlib.Omega.{arith}
use lib.ListN.{length}
use Rattle.room.proofs.Write.{write_length}
use Rattle.varint.specs.Leb128.{encode}
use Rattle.tree_pack.proofs.Own.{putting, putting_fits, putting_more, putting_done, own_length, own_written}
use Rattle.tree_pack.proofs.put_own.Goals as goal

pub write_uvarint-p-requires : goal.write_uvarint-p-requires
write_uvarint-p-requires c = omega (arith, c.requires, own_length c.args.own.now)

pub loop-x-init : goal.loop-x-init
loop-x-init c =
    putting _ _ _ (omega (arith, c.write_uvarint-p.ensures.0, c.requires, own_length c.args.own.now, ap length c.write_uvarint-p.ensures.1, write_length c.args.out.now c.args.at (encode (length c.args.own.now))))

pub write_uvarint-p-requires-in-loop-x : goal.write_uvarint-p-requires-in-loop-x
write_uvarint-p-requires-in-loop-x c =
    rw (c.from.ensures, c.saturating_sub.ensures) (putting_fits _ _ _ _ _ _ _ c.loop-x.invariant c.loop-x-test.true)

pub loop-x-preserved : goal.loop-x-preserved
loop-x-preserved c =
    let w = rw (c.from.ensures, c.saturating_sub.ensures) at c.write_uvarint-p-in-loop-x.ensures in
    putting_more _ _ _ _ _ _ _ c.loop-x.invariant c.loop-x-test.true _ _ w.1 w.0

pub returns : goal.returns
returns c =
    let k = c.write_uvarint-p in
    let d = putting_done _ _ _ _ _ _ _ c.loop-x.invariant c.loop-x-test.false in
    own_written _ _ _ _ _ _ _ k.ensures.1 k.ensures.0 d.1 d.0
