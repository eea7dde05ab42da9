-- How the list calls' answers are told: 0 and how many were listed, or a refusal.
use Rattle.std.specs.Prelude.{Ok, Err}
use Rattle.rings.specs.Listing.{Listed}
use Rattle.capi.specs.Told.{Told, refusal_told}

abbrev pub list_told : Listed → Told
list_told (Ok n) = (0, n)
list_told (Err why) = refusal_told why

abbrev pub stripes_told : Listed → Told
stripes_told answer = list_told answer

abbrev pub tree_told : Listed → Told
tree_told answer = list_told answer
