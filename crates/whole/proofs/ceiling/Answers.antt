-- `whole::ceiling` meets its contract. Assumes nothing.
use Rattle.std.proofs.Common.{T, sym, subst}
use Rattle.whole.proofs.Ceilings.{small_float, way_more, way_whole, way_large}
use Rattle.whole.proofs.ceiling.Goals as goal

pub int_to_float-k : goal.int_to_float-k
int_to_float-k c = small_float _ c.if-k-lt9007199254740992.true

pub returns-then-k-x : goal.returns-then-k-x
returns-then-k-x c = let f = c.floor_within-k.ensures.computed in way_more _ _ f c.if-k-lt9007199254740992.true c.if-k-x.true

pub returns-then-k-lt9007199254740992 : goal.returns-then-k-lt9007199254740992
returns-then-k-lt9007199254740992 c = let f = c.floor_within-k.ensures.computed in way_whole _ _ f c.if-k-lt9007199254740992.true c.if-k-x.false

pub returns : goal.returns
returns c = way_large _ _ c.floor_within-k.ensures.computed (subst T (sym c.well_formed.0.1) tt) c.if-k-lt9007199254740992.false
