use mathlib.Core.Path.{sym, ◌∙◌}
use native.Mathlib.Omega.{arith}
use Rattle.room.proofs.Fill.{filling_more, filling_done, padded_filled}
use Rattle.room.proofs.fill_from.Goals as goal

pub loop-i-preserved : goal.loop-i-preserved
loop-i-preserved g c = filling_more c.args.x _ _ _ _ (omega arith) c.loop-i.invariant

pub returns : goal.returns
returns g c = filling_done c.args.x _ _ _ _ (omega arith) c.loop-i.invariant ∙ sym (padded_filled c.args.x _ _)
