-- `room::put` meets its contract.
use native.Mathlib.Omega.{arith}
use mathlib.Core.List.{[], ◌∷◌}
use Rattle.room.specs.Room.{write}
use Rattle.room.proofs.Pour.{put_fits, put_short}
use Rattle.room.proofs.put.Goals as goal

pub returns-then-out-at : goal.returns-then-out-at
returns-then-out-at g c = put_short _ _ _ (omega arith)

pub returns : goal.returns
unfolding write
returns g c = let a = c.args in put_fits (a.x ∷ []) a.at a.out.now (omega arith)
