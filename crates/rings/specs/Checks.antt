-- 01, "What a call says when it says no": the rules for one ring, which is given its point count and is numbered 0.
use Rattle.std.specs.Prelude.{Result, Ok, Err, ℕ, ◌*◌, ◌-◌, List, Bool, true, false, not, ◌&&◌, eqb, ltb, length, ℤ, pos, negsuc}
use Rattle.answers.specs.declared.Refusal.{Refusal}
use Rattle.answers.specs.declared.Refusal.TheVariants.{TooFew, TooMany, SizesDiffer, NotClosed}
use Rattle.answers.specs.Answers.{Answer}
use Rattle.boxes.specs.declared.I32Point.{I32Point}
use Rattle.rings.specs.Ring.{point_at}

-- "2 to 4,097 points a ring"
abbrev pub min_points : ℕ
min_points = 2

abbrev pub max_points : ℕ
max_points = 4097

abbrev pub eq_z : ℤ → ℤ → Bool
eq_z (pos a) (pos b) = eqb a b
eq_z (pos a) (negsuc b) = false
eq_z (negsuc a) (pos b) = false
eq_z (negsuc a) (negsuc b) = eqb a b

abbrev pub same_point : I32Point → I32Point → Bool
same_point p q = eq_z p.x q.x && eq_z p.y q.y

-- the first point is equal to the last
abbrev pub closed : List ℤ → ℕ → Bool
closed ring points = same_point (point_at ring 0) (point_at ring (points - 1))

-- what the checks find: nothing, or the first fault
abbrev pub Checked : Type 0
Checked = Result (Unit {0}) Refusal

-- a rule that holds leaves the answer to the rules after it; one that does not refuses
abbrev pub holding : Bool → Refusal → Checked → Checked
holding true why later = later
holding false why later = Err why

-- rules 1 to 4, in order
unfoldable pub ring_checked : List ℤ → ℕ → Checked
ring_checked ring points =
    holding (not (ltb points min_points)) (TooFew 0)
    (holding (not (ltb max_points points)) (TooMany 0)
    (holding (eqb (points * 2) (length ring)) SizesDiffer
    (holding (closed ring points) (NotClosed 0) (Ok tt))))

-- one check after another: the first fault is named
abbrev pub then_checked : Checked → Checked → Checked
then_checked (Ok _) later = later
then_checked (Err why) later = Err why

-- what an inside question answers: the refusal, or what follows where the ring is sound
abbrev pub when_sound : Checked → Answer → Answer
when_sound (Ok _) answer = answer
when_sound (Err why) answer = Err why
