use Rattle.capi.proofs.Striped.{striped_fits, striped_short}
use Rattle.capi.proofs.build_stripes.tell_striped.Goals as goal

pub returns-then-span-stats : goal.returns-then-span-stats
returns-then-span-stats c =
    let a = c.args in
    let s = c.zero_rooms.auto.span in
    let t = c.zero_rooms.auto.stats in
    striped_fits a.built.least a.built.height a.built.stats a.stripes.now a.list.now a.span.now a.stats.now
    (rw (s, t) at c.if-span-stats.true)
    (rw s at c.put_span.ensures)
    (rw t at c.put_stats.ensures)

pub returns : goal.returns
returns c =
    let a = c.args in
    let s = c.zero_rooms.auto.span in
    let t = c.zero_rooms.auto.stats in
    striped_short a.built.least a.built.height a.built.stats a.stripes.now a.list.now a.span.now a.stats.now
    (rw (s, t) at c.if-span-stats.false)
    c.tell_refusal.ensures
    (c.fill.ensures.after (λ _ e. e))
    (c.fill-2.ensures.after (λ _ e. e))
    c.zero_rooms.ensures.spans
    c.zero_rooms.ensures.statistics
