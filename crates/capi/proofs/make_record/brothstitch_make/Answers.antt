-- The check finds this alone; it stands so that an edit is refused at the equation, and not where a search gave up.
use Rattle.capi.specs.Outlines.{made_told}
use Rattle.capi.proofs.Telling.{telling}
use Rattle.capi.proofs.make_record.brothstitch_make.Goals as goal

pub returns : goal.returns
returns c = telling made_told (simp c.outline_of-outline.ensures at c.make_boxes-answer.ensures) c.tell_count.ensures
