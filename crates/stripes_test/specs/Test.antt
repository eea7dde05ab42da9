-- 01, "Asking": the ring test of the segments that a search of the stripes lists.
use Rattle.std.specs.Prelude.{Ok, Err, Bool, false, cond, ◌&&◌, List, ℕ, ℤ, Float}
use Rattle.std.specs.Float.Ieee.Scale.{finite}
use Rattle.answers.specs.declared.Refusal.TheVariants.{Damaged}
use Rattle.answers.specs.Answers.{Answer}
use Rattle.answers.specs.Answers.{said}
use Rattle.boxes.specs.declared.Point.{Point}
use Rattle.rings.specs.Checks.{Checked}
use Rattle.rings.specs.Ring.{wide, segments}
use Rattle.rings.specs.Checks.{ring_checked, when_sound}
use Rattle.cast_test.specs.Test.{test_of}
use Rattle.stripes_find.specs.Search.{Reading, Ending, complete, damaged_at, searched}

-- "It answers as if the list were complete before the first segment is tested, so damage met anywhere in listing refuses"
abbrev pub unless : Ending → Answer → Answer
unless complete answer = answer
unless (damaged_at place) answer = Err (Damaged place)

abbrev pub verdict : (ℕ → Float) → Point → Bool → Reading → Answer
verdict ring p edge r = unless r.ending (said (test_of ring p edge r.found))

-- The checks come first; what they found is given, since they look at the stored numbers and what follows does not. "a query that is NaN or infinite ..
-- is outside"
unfoldable pub stripes_tested_by : Checked → (ℕ → Float) → ℕ → Float → Float → List ℕ → List ℕ → Point → Bool → Answer
stripes_tested_by checked ring points least height stripes list p edge =
    when_sound checked
    (cond (finite p.x && finite p.y) (verdict ring p edge (searched ring (segments points) least height stripes list p.y)) (Ok false))

-- of a stored ring
abbrev pub stripes_tested : List ℤ → ℕ → Float → Float → List ℕ → List ℕ → Point → Bool → Answer
stripes_tested ring points least height stripes list p edge = stripes_tested_by (ring_checked ring points) (wide ring) points least height stripes list p edge
