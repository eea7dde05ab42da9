-- `outline_index::Step::put_stripes` meets its contract. Assumes nothing.
use mathlib.Core.Path.{sym, ◌∙◌}
use native.Mathlib.Omega.{arith}
use Rattle.rings.proofs.Checks.{sound_ring}
use Rattle.rings.specs.Ring.{wide}
use Rattle.outline_index.proofs.Steps.{stripes_none, stripes_put_lem}
use Rattle.outline_index.proofs.Step.put_stripes.Goals as goal

pub overflow_sub-self : goal.overflow_sub-self
overflow_sub-self c = omega (arith, (sound_ring c.args.self.ring.now c.args.self.points c.args.self.checked).enough)

pub returns-then-not-gives_stripes : goal.returns-then-not-gives_stripes
returns-then-not-gives_stripes c =
    let s = c.args.self in
    stripes_none s.options (wide s.ring.now) s.points s.at c.args.stripes.now c.args.list.now c.requires.zero_from c.requires.zero_from_2
    (sym c.gives_stripes.ensures ∙ c.if-not-gives_stripes.true)

pub returns : goal.returns
returns c =
    let s = c.args.self in
    stripes_put_lem s.options (wide s.ring.now) s.points s.at c.args.stripes.now c.args.list.now c.requires.zero_from c.requires.zero_from_2 _
    (sym c.gives_stripes.ensures ∙ c.if-not-gives_stripes.false) s.checked _ _ _ c.build_stripes.ensures
