-- `outline_build::Shaped::build_zeroed` meets its contract. Assumes nothing.
use mathlib.Core.Path.{◌∙◌}
use mathlib.Core.Bool.{true}
use native.Mathlib.Omega.{arith}
use Rattle.outline_check.proofs.Sound.{sound_shape}
use Rattle.outline_build.proofs.Outcomes.{lacks_first, built_all_lem, built_short}
use Rattle.outline_build.proofs.Shaped.build_zeroed.Goals as goal

pub overflow_mul-n : goal.overflow_mul-n
overflow_mul-n c = omega (arith, (sound_shape c.args.self.sizes.now c.args.self.coords.now true c.args.self.shaped).1.counted.few)

pub returns-then-table-n : goal.returns-then-table-n
returns-then-table-n c =
    let a = c.args in
    lacks_first a.self.options a.self.sizes.now a.self.coords.now a.table.now a.spans.now a.stripes.now a.list.now a.bytes.now a.work.now c.if-table-n.true c.requires

pub returns-then-index_rings : goal.returns-then-index_rings
returns-then-index_rings c =
    let a = c.args in
    built_all_lem a.self.options a.self.sizes.now a.self.coords.now a.table.now a.spans.now a.stripes.now a.list.now a.bytes.now a.work.now _ _ _ _ _ _ (rw c.if-index_rings.true at c.index_rings.ensures)

pub returns : goal.returns
returns c =
    let a = c.args in
    built_short a.self.options a.self.sizes.now a.self.coords.now a.table.now a.spans.now a.stripes.now a.list.now a.bytes.now a.work.now _ _ _ _ _ _
    c.index_rings.auto.table
    c.index_rings.auto.spans
    c.index_rings.auto.stripes
    c.index_rings.auto.list
    c.index_rings.auto.bytes
    c.index_rings.auto.work
    (rw c.if-index_rings.false at c.index_rings.ensures)
    ∙ c.zero_all.ensures
