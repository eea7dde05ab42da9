-- `whole::near` meets its contract. Assumes nothing.
use Rattle.std.proofs.Common.{T, sym, subst}
use Rattle.whole.proofs.Within.{whole_part}
use Rattle.whole.proofs.Double.{near_is}
use Rattle.whole.proofs.near.Goals as goal

pub returns : goal.returns
returns c = near_is _ _ (subst T (sym c.well_formed.0.1) tt) (whole_part _ _ c.floor_within-twice.ensures.computed)
