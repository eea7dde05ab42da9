use mathlib.Core.Path.{sym, ◌∙◌}
use Rattle.capi.proofs.Striped.{refused_zero, refused_kept}
use Rattle.capi.proofs.build_stripes.tell_refused.Goals as goal

pub returns-then-zeroes_rooms : goal.returns-then-zeroes_rooms
returns-then-zeroes_rooms c =
    let a = c.args in
    refused_zero a.why a.span.now a.stats.now
    (sym c.zeroes_rooms.ensures ∙ c.if-zeroes_rooms.true)
    c.tell_refusal.ensures
    c.zero_rooms.ensures.spans
    c.zero_rooms.ensures.statistics

pub returns : goal.returns
returns c =
    let a = c.args in
    refused_kept a.why a.span.now a.stats.now
    (sym c.zeroes_rooms.ensures ∙ c.if-zeroes_rooms.false)
    c.tell_refusal-2.ensures
