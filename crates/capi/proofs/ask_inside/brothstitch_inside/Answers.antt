-- The check finds this alone; it stands so that an edit is refused at the equation, and not where a search gave up.
use Rattle.capi.proofs.ask_inside.brothstitch_inside.Goals as goal

pub returns : goal.returns
returns c = simp (c.inside.ensures, c.is_set-allowed.ensures, c.outline_of-outline.ensures) at c.tell_answer.ensures
