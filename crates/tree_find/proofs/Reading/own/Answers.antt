use mathlib.Core.Path.{sym, ◌∙◌}
use Rattle.answers.proofs.Refused.{refused}
use Rattle.tree_find.proofs.Ways.{count_unread, count_read}
use Rattle.tree_find.proofs.Reading.own.Goals as goal

pub returns-in_err-n : goal.returns-in_err-n
returns-in_err-n g c =
    rw (refused c.from_residual.result c.from_residual.ensures.1)
    (count_unread _ c.args.self _ _ _ _ (sym c.in_err-n.ensures))

pub returns : goal.returns
returns g c = count_read _ c.args.self _ _ _ _ _ (sym c.in_ok-n.ensures) ∙ c.own_list.ensures
