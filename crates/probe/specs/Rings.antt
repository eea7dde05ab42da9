-- The numbers that stand for what is said of a ring without an index.
use Rattle.std.specs.Prelude.{ℕ, Ok, Err, List}
use Rattle.answers.specs.Refusals.{number_of, place_of}
use Rattle.rings.specs.Listing.{Listed}
use Rattle.turn.specs.Turn.{Turned, number_of as turnNumber}

-- 0 and how many were listed, or the refusal's number and place; and the room
abbrev pub list_numbers : Listed × List ℕ → ℕ × ℕ × List ℕ
list_numbers (Ok n, out) = (0, n, out)
list_numbers (Err refusal, out) = (number_of refusal, place_of refusal, out)

-- the refusal's place, and the turn's number
abbrev pub turn_numbers : Turned → ℕ × ℕ × ℕ
turn_numbers (Ok turning) = (0, 0, turnNumber turning)
turn_numbers (Err refusal) = (number_of refusal, place_of refusal, 0)
