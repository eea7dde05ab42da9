-- `whole::floor` meets its contract. Assumes nothing.
use lib.Ieee.{of_bits}
use Rattle.whole.proofs.Joined.{floor_minus, floor_plus}
use Rattle.whole.proofs.floor.Goals as goal

pub returns-then-x : goal.returns-then-x
unfolding of_bits
returns-then-x c =
    let both = floor_minus _ _ _ c.if-x.true c.ceiling.ensures c.with_sign.ensures in record { meets = both.0; computed = both.1 }

pub returns : goal.returns
unfolding of_bits
returns c =
    let both = floor_plus _ _ _ c.if-x.false c.floor_within.ensures.computed c.with_sign-2.ensures in record { meets = both.0; computed = both.1 }
