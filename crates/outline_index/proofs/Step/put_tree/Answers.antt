-- `outline_index::Step::put_tree` meets its contract. Assumes nothing.
use mathlib.Core.Path.{sym, ◌∙◌}
use native.Mathlib.Omega.{arith}
use Rattle.rings.proofs.Checks.{sound_ring}
use Rattle.rings.specs.Ring.{wide}
use Rattle.outline_index.proofs.Steps.{tree_none, tree_put_lem}
use Rattle.outline_index.proofs.Step.put_tree.Goals as goal

pub overflow_sub-self : goal.overflow_sub-self
overflow_sub-self c = omega (arith, (sound_ring c.args.self.ring.now c.args.self.points c.args.self.checked).enough)

pub returns-then-not-gives_tree : goal.returns-then-not-gives_tree
returns-then-not-gives_tree c =
    let s = c.args.self in
    tree_none s.options (wide s.ring.now) s.points s.at c.args.bytes.now c.args.work.now c.requires.zero_from c.requires.work_value
    (sym c.gives_tree.ensures ∙ c.if-not-gives_tree.true)

pub returns : goal.returns
returns c =
    let s = c.args.self in
    tree_put_lem s.options (wide s.ring.now) s.points s.at c.args.bytes.now c.args.work.now c.requires.zero_from c.requires.work_value _
    (sym c.gives_tree.ensures ∙ c.if-not-gives_tree.false) s.checked _ _ _ c.build_tree.ensures
