use mathlib.Core.Path.{refl}
use lib.ListN.{length}
use borrow.Author.Rules.{rules}
use Rattle.rings.specs.Ring.{wide}
use Rattle.tree_find.proofs.Answers.{list_reached, list_stopped}
use Rattle.tree_find.proofs.list_in.Goals as goal

pub returns-in-Ok : goal.returns-in-Ok
returns-in-Ok c = list_reached (wide c.args.coords.now) _ refl _ (c.fill.ensures.after (λ _ e. e)) _ _ _ _ c.in-Ok.ensures (λ k. search rules)

pub returns-in-Err : goal.returns-in-Err
returns-in-Err c =
    list_stopped (wide c.args.coords.now) _ refl _ (c.fill.ensures.after (λ _ e. e)) _ _ _ _ (length c.search.new.visit.out.now) c.in-Err.ensures
    (λ k. search rules) (search rules)
