use Prim.Native.Nat.{ℕ, suc, ◌+◌, ◌-◌, ◌<◌}
use mathlib.Core.Path.{◌≡◌, sym, ◌∙◌}
use native.Mathlib.Omega.{arith}
use native.Mathlib.Nat.{sub-zero}
use Rattle.answers.proofs.Refused.{refused}
use Rattle.tree_find.proofs.Ways.{own_done, own_unread, own_over, own_skip, own_more, own_stop}
use Rattle.tree_find.proofs.Reading.own_list.Goals as goal
use Rattle.tree_find.proofs.Reading.own_list.Goals.{then-holds_height+in_ok-visit, else-holds_height}

-- one more is left
one_left : {n i : ℕ} → i < n → n - i ≡ suc (n - (i + 1))
one_left h = omega arith

pub loop-init : goal.loop-init
loop-init g c = (rw sub-zero, omega arith)

pub returns-in_err-d : goal.returns-in_err-d
returns-in_err-d g c =
    rw (refused c.from_residual.result c.from_residual.ensures.1)
    (c.loop.invariant.0 ∙ own_unread _ c.args.self _ _ _ _ _ _ (one_left c.loop-test.true) _ (sym c.in_err-d.ensures))

pub returns-then-self-last : goal.returns-then-self-last
returns-then-self-last g c = c.loop.invariant.0 ∙ own_over _ c.args.self _ _ _ _ _ _ (one_left c.loop-test.true) _ _ (sym c.in_ok-d.ensures) (omega (arith, c.if-self-last.true, c.loop.invariant.1))

pub returns-in_err-visit : goal.returns-in_err-visit
returns-in_err-visit g c =
    rw (refused c.from_residual-in_err-visit.result c.from_residual-in_err-visit.ensures.1)
    (c.loop.invariant.0
    ∙ own_stop _ c.args.self _ _ _ _ _ _ (one_left c.loop-test.true) _ _ (sym c.in_ok-d.ensures) (omega (arith, c.if-self-last.false, c.loop.invariant.1))
    (sym c.if-holds_height.ensures) _ _ c.in_err-visit.ensures)

pub loop-preserved : goal.loop-preserved
loop-preserved g c = (
  elim c.if-holds_height.branch [
    | then-holds_height+in_ok-visit w ↦
        c.loop.invariant.0
        ∙ own_more _ c.args.self _ _ _ _ _ _ (one_left c.loop-test.true) _ _ (sym c.in_ok-d.ensures) (omega (arith, c.if-self-last.false, c.loop.invariant.1))
        (sym w.if-holds_height.ensures) _ (rw w.visit-is w.in_ok-visit.ensures)
    | else-holds_height w ↦
        c.loop.invariant.0
        ∙ rw w.visit-is (own_skip _ c.args.self _ _ _ _ _ _ (one_left c.loop-test.true) _ _ (sym c.in_ok-d.ensures) (omega (arith, c.if-self-last.false, c.loop.invariant.1))
        (sym w.if-holds_height.ensures))
  ],
  omega (arith, c.if-self-last.false, c.loop.invariant.1),
)

pub returns : goal.returns
returns g c = c.loop.invariant.0 ∙ own_done _ c.args.self _ _ _ _ _ (omega (arith, c.loop-test.false))
