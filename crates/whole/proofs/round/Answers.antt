-- `whole::round` meets its contract. Assumes nothing.
use lib.Ieee.{of_bits}
use Rattle.whole.proofs.Joined.{rounded}
use Rattle.whole.proofs.round.Goals as goal

pub returns : goal.returns
unfolding of_bits
returns c =
    let both = rounded _ _ _ _ c.abs.ensures c.near.ensures c.with_sign.ensures in record { meets = both.0; computed = both.1 }
