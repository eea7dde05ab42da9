-- `tree_part::lift` meets its contract, by the laws of `Halves`.
use Prim.Native.Nat.{◌<◌}
use native.Mathlib.Omega.{arith}
use lib.ListN.{length}
use Rattle.tree_part.proofs.Halves.{lifting_room, lifting_yes, lifting_no, lifting_done}
use Rattle.tree_part.proofs.lift.Goals as goal
use Rattle.tree_part.proofs.lift.Goals.{then-x-class, else-x-class}

pub bounds-run-p : goal.bounds-run-p
bounds-run-p c =
    lifting_room _ _ _ _ _ _ c.loop-i.invariant c.requires (omega arith) c.if-x-class.true

pub bounds-run-p-then-x-class : goal.bounds-run-p-then-x-class
bounds-run-p-then-x-class c =
    lifting_room _ _ _ _ _ _ c.loop-i.invariant c.requires (omega arith) c.if-x-class.true

pub loop-i-preserved : goal.loop-i-preserved
loop-i-preserved c =
    let l = c.loop-i in
    let h : l.i < length l.run = omega arith in
    elim c.if-x-class.branch [
      | then-x-class w ↦ rw (w.run-is, w.p-is) (lifting_yes _ _ _ _ _ _ l.invariant h w.if-x-class.true)
      | else-x-class w ↦ rw (w.run-is, w.p-is) (lifting_no _ _ _ _ _ _ l.invariant h w.if-x-class.false)
    ]

pub returns : goal.returns
returns c = lifting_done _ _ _ _ _ _ c.loop-i.invariant (omega arith)
