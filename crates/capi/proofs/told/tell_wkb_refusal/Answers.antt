use borrow.Author.Rules.{rules}
use Rattle.capi.proofs.Telling.{wkb_number_small}
use Rattle.capi.proofs.told.tell_wkb_refusal.Goals as goal

pub overflow_add-result : goal.overflow_add-result
overflow_add-result c = search (rules, wkb_number_small c.args.why)
