use mathlib.Core.Path.{sym, ◌∙◌}
use Rattle.answers.proofs.Refused.{refused}
use Rattle.tree_find.proofs.Answers.{test_on, test_off, test_stopped}
use Rattle.tree_find.proofs.test_in.Goals as goal

pub returns-in_err-search : goal.returns-in_err-search
returns-in_err-search c = refused c.from_residual.result c.from_residual.ensures.1 ∙ sym (test_stopped _ _ _ _ _ _ c.in_err-search.ensures)

pub returns-then-test : goal.returns-then-test
returns-then-test c = test_on _ _ _ _ _ _ c.in_ok-search.ensures c.if-test.true

pub returns : goal.returns
returns c = test_off _ _ _ _ _ _ c.in_ok-search.ensures c.if-test.false
