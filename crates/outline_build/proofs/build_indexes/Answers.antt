-- `outline_build::build_indexes` meets its contract. Assumes nothing.
use mathlib.Core.Path.{◌≡◌, sym, ◌∙◌}
use Rattle.std.proofs.Common.{Err, rules}
use Rattle.outline_build.proofs.Outcomes.{built_faulty, built_sound, indexed_room}
use Rattle.outline_build.proofs.build_indexes.Goals as goal

pub returns-in_err-check_shape : goal.returns-in_err-check_shape
returns-in_err-check_shape c =
    let a = c.args in
    let told : c.from_residual.result ≡ Err c.in_err-check_shape.field-0.0 = search rules in
    rw told
    (built_faulty a.sizes.now a.coords.now a.options a.table.now a.spans.now a.stripes.now a.list.now a.bytes.now a.work.now _
    (sym c.check_shape.ensures ∙ c.in_err-check_shape.was))

pub returns : goal.returns
returns c =
    let a = c.args in
    built_sound a.sizes.now a.coords.now a.options a.table.now a.spans.now a.stripes.now a.list.now a.bytes.now a.work.now
    (sym c.check_shape.ensures ∙ c.in_ok-check_shape.was)
    ∙ indexed_room a.options a.sizes.now a.coords.now a.table.now a.spans.now a.stripes.now a.list.now a.bytes.now a.work.now _ _ _ _ _ _
    c.zero_all.auto.table
    c.zero_all.auto.spans
    c.zero_all.auto.stripes
    c.zero_all.auto.list
    c.zero_all.auto.bytes
    c.zero_all.auto.work
    ∙ c.build_zeroed.ensures
