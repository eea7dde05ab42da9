-- The check finds this alone; it stands so that an edit is refused at the equation, and not where a search gave up.
use Rattle.capi.proofs.ring_scan.brothstitch_ring_scan.Goals as goal

pub returns : goal.returns
returns c = simp (c.scan_test.ensures, c.is_set-allowed.ensures) at c.tell_answer.ensures
