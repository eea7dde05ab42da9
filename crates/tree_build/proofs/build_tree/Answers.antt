-- `tree_build::build_tree` meets its contract. Assumes nothing.
use mathlib.Core.Path.{sym, ◌∙◌}
use Rattle.std.proofs.lemmas.Result.{err_from_is_err_and}
use Rattle.rings.proofs.Checks.{sound_ring}
use Rattle.rings.specs.Ring.{wide}
use Rattle.tree_build.proofs.Building.{built_faulty, built_sound}
use Rattle.tree_build.proofs.build_tree.Goals as goal

pub invariant_of-ring : goal.invariant_of-ring
invariant_of-ring c =
    let s = sound_ring c.args.coords.now c.args.points (sym c.in_ok-check_ring.ensures) in
    record { checked = (s.enough, s.few, s.sizes) }

pub returns-in_err-check_ring : goal.returns-in_err-check_ring
returns-in_err-check_ring c = let p = err_from_is_err_and c.from_residual.result c.from_residual.ensures.1 in
    rw (p.1, p.2) (built_faulty (wide c.args.coords.now) c.args.points c.args.threshold c.args.bytes.now c.args.work.now _ _ (sym c.in_err-check_ring.ensures))

pub returns : goal.returns
returns c =
    built_sound (wide c.args.coords.now) c.args.points c.args.threshold c.args.bytes.now c.args.work.now _ (sym c.in_ok-check_ring.ensures)
    ∙ c.build_sound.ensures
