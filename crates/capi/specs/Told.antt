-- How an answer is told through the C interface: the number that a call returns, and the number that it leaves in `value`.
use Rattle.std.specs.Prelude.{Ok, Err, ℕ, ◌+◌, Bool, true, false, not, eqb, Float}
use Rattle.answers.specs.declared.Refusal.{Refusal}
use Rattle.answers.specs.Answers.{Answer}
use Rattle.answers.specs.Refusals.{number_of, place_of}
use Rattle.boxes.specs.declared.Point.{Point}

-- what is returned, and value
abbrev pub Told : Type 0
Told = ℕ × ℕ

-- 100 and 01's number; 01's place
abbrev pub refusal_told : Refusal → Told
refusal_told why = (100 + number_of why, place_of why)

-- 1 for yes and 0 for no
abbrev pub answer_told : Answer → Told
answer_told (Ok true) = (1, 0)
answer_told (Ok false) = (0, 0)
answer_told (Err why) = refusal_told why

-- an answer that comes with the content of lent room
abbrev pub told : {A B : Type 0} → (A → Told) → A × B → Told × B
told f (answer, room) = (f answer, room)

-- an option is off at 0 and on at any other number
abbrev pub is_set : ℕ → Bool
is_set n = not (eqb n 0)

abbrev pub point : Float → Float → Point
point px py = record { x = px; y = py }
