-- 01, "Turn": anticlockwise when the exact doubled signed area is above zero, clockwise when it is below zero, none when it is 0.
use Rattle.std.specs.Prelude.{Result, Ok, Err, ℕ, zero, suc, cond, List, ℤ, pos, ◌+ℤ◌, ◌-ℤ◌, ◌*ℤ◌}
use Rattle.std.specs.Int.Signed.{lt_z}
use Rattle.answers.specs.declared.Refusal.{Refusal}
use Rattle.boxes.specs.declared.Segment.{Segment}
use Rattle.rings.specs.Checks.{Checked}
use Rattle.rings.specs.Ring.{segment_at, segments}
use Rattle.rings.specs.Checks.{ring_checked}
use Rattle.turn.specs.declared.Turning.{Turning}
use Rattle.turn.specs.declared.Turning.TheVariants.{Anticlockwise, Clockwise, None}

-- what the call answers: a turn, or a refusal
abbrev pub Turned : Type 0
Turned = Result Turning Refusal

-- the sum of the first n of a row of whole numbers
unfoldable pub sum_to : (ℕ → ℤ) → ℕ → ℤ
sum_to term zero = pos 0
sum_to term (suc n) = sum_to term n +ℤ term n

-- a segment's part in the doubled area: ax by - bx ay
abbrev pub part : Segment → ℤ
part s = s.a.x *ℤ s.b.y -ℤ s.b.x *ℤ s.a.y

-- the doubled signed area, in the mathematical integers
abbrev pub doubled_area : List ℤ → ℕ → ℤ
doubled_area ring points = sum_to (λ i. part (segment_at ring i)) (segments points)

-- the turn that an area tells
unfoldable pub turn_of : ℤ → Turning
turn_of area = cond (lt_z (pos 0) area) Anticlockwise (cond (lt_z area (pos 0)) Clockwise None)

-- the number that stands for a turn where answers are numbers
abbrev pub number_of : Turning → ℕ
number_of Clockwise = 0
number_of Anticlockwise = 1
number_of None = 2

abbrev pub when_sound : Checked → Turning → Turned
when_sound (Ok _) turning = Ok turning
when_sound (Err why) turning = Err why

-- rules 1 to 4, then the turn
unfoldable pub turned : List ℤ → ℕ → Turned
turned ring points = when_sound (ring_checked ring points) (turn_of (doubled_area ring points))
