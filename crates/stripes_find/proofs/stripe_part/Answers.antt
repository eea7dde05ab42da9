-- `stripes_find::stripe_part` meets its contract. Assumes nothing.
use mathlib.Core.Path.{sym}
use Rattle.stripes_find.proofs.Parts.{part_none, part_past, part_run}
use Rattle.stripes_find.proofs.stripe_part.Goals as goal

pub returns-then-stripes-eq0 : goal.returns-then-stripes-eq0
returns-then-stripes-eq0 c = let a = c.args in sym (part_none a.least a.height a.stripes.now a.long a.y c.if-stripes-eq0.true)

pub returns-then-long-past : goal.returns-then-long-past
returns-then-long-past c =
    let a = c.args in
    sym
    (part_past a.least a.height a.stripes.now a.long a.y _ _ _ c.if-stripes-eq0.false c.stripe_in-s.ensures.0 c.wide-start.ensures c.wide.ensures
    c.if-long-past.true)

pub returns : goal.returns
returns c =
    let a = c.args in
    sym
    (part_run a.least a.height a.stripes.now a.long a.y _ _ _ c.if-stripes-eq0.false c.stripe_in-s.ensures.0 c.wide-start.ensures c.wide.ensures
    c.if-long-past.false)
