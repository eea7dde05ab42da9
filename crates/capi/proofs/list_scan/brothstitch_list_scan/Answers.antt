use Rattle.capi.specs.Lists.{list_told}
use Rattle.capi.proofs.Telling.{telling}
use Rattle.capi.proofs.list_scan.brothstitch_list_scan.Goals as goal

pub returns : goal.returns
returns c = telling list_told c.scan-answer.ensures c.tell_count.ensures
