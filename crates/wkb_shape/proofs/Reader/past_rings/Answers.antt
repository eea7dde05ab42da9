use native.Mathlib.Omega.{arith}
use mathlib.Core.Path.{◌≡◌, refl, sym}
use lib.ListN.{length}
use Rattle.std.proofs.lemmas.Result.{err_from_is_err_and}
use Rattle.wkb_shape.proofs.Laid.{passing, pass_cut, pass_in, pass_stop, pass_on, pass_done}
use Rattle.wkb_shape.proofs.Reader.past_rings.Goals as goal

pub loop-k-init : goal.loop-k-init
loop-k-init c = (refl, passing _ _ _ _ c.args.self.within)

pub invariant_of-self : goal.invariant_of-self
invariant_of-self c = record { within = c.loop-k.invariant.1.inside }

pub returns-in_err-points : goal.returns-in_err-points
returns-in_err-points c =
    let p = err_from_is_err_and c.from_residual.result c.from_residual.ensures.1 in
    rw (p.1, p.2) (pass_cut _ _ _ _ _ _ c.loop-k.invariant.1 c.loop-k-test.true _ (sym c.in_err-points.ensures))

pub overflow_add-self : goal.overflow_add-self
overflow_add-self c =
    let there = pass_in _ _ _ _ _ _ c.loop-k.invariant.1 c.loop-k-test.true _ (sym c.in_ok-points.ensures) in
    let same : length c.loop-k.self.0.now ≡ length c.args.self.bytes.now = c.loop-k.invariant.0 in
    omega (arith, there, same)

pub invariant_of-self-in-loop-k : goal.invariant_of-self-in-loop-k
invariant_of-self-in-loop-k c = record { within = pass_in _ _ _ _ _ _ c.loop-k.invariant.1 c.loop-k-test.true _ (sym c.in_ok-points.ensures) }

pub returns-in_err-self : goal.returns-in_err-self
returns-in_err-self c =
    let p = err_from_is_err_and c.from_residual-in_err-self.result c.from_residual-in_err-self.ensures.1 in
    rw (p.1, p.2)
    (pass_stop _ _ _ _ _ _ c.loop-k.invariant.1 c.loop-k-test.true _ (sym c.in_ok-points.ensures) _ (sym c.in_err-self.ensures))

pub loop-k-preserved : goal.loop-k-preserved
loop-k-preserved c =
    let i = c.loop-k.invariant in
    (i.0, pass_on _ _ _ _ _ _ i.1 c.loop-k-test.true _ (sym c.in_ok-points.ensures) _ (sym c.in_ok-self.ensures))

pub returns : goal.returns
returns c = pass_done _ _ _ _ _ _ c.loop-k.invariant.1 c.loop-k-test.false
