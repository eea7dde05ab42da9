-- The numbers that stand for an answer: 0 or 01's number of the refusal, then a place, then what comes with them.
use Rattle.std.specs.Prelude.{ℕ, true, false, Result, Ok, Err, List}
use Rattle.answers.specs.declared.Refusal.{Refusal}
use Rattle.answers.specs.Refusals.{number_of, place_of}
use Rattle.answers.specs.Answers.{Answer}
use Rattle.varint.specs.Uvarint.{ReadUvarint, AppendUvarint}

-- what came with an answer, behind 0 and no place; or the refusal's number and place, and `none`
abbrev pub value_numbers : {A : Type 0} → A → Result A Refusal → ℕ × ℕ × A
value_numbers none (Ok value) = (0, 0, value)
value_numbers none (Err refusal) = (number_of refusal, place_of refusal, none)

-- the place past the number and the number that was read; or the refusal's place and 0
abbrev pub read_numbers : ReadUvarint → ℕ × ℕ × ℕ
read_numbers (Ok (x, next)) = (0, next, x)
read_numbers (Err refusal) = (number_of refusal, place_of refusal, 0)

-- the place past the number that was written, or the refusal's; and the room
abbrev pub append_numbers : AppendUvarint × List ℕ → ℕ × ℕ × List ℕ
append_numbers (Ok next, out) = (0, next, out)
append_numbers (Err refusal, out) = (number_of refusal, place_of refusal, out)

-- the refusal's place, and 1 for yes
abbrev pub answer_numbers : Answer → ℕ × ℕ × ℕ
answer_numbers (Ok true) = (0, 0, 1)
answer_numbers (Ok false) = (0, 0, 0)
answer_numbers (Err refusal) = (number_of refusal, place_of refusal, 0)
