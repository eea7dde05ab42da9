-- How the turn of a ring is told: 1 anticlockwise, 0 clockwise, 2 none.
use Rattle.std.specs.Prelude.{Ok, Err}
use Rattle.turn.specs.Turn.{Turned}
use Rattle.turn.specs.Turn.{number_of}
use Rattle.capi.specs.Told.{Told, refusal_told}

abbrev pub turn_told : Turned → Told
turn_told (Ok turning) = (number_of turning, 0)
turn_told (Err why) = refusal_told why
