-- 01, "Asking": the ring test by `raycast`, of segments that are listed by whatever means, and of those that a scan lists.
use Rattle.std.specs.Prelude.{Ok}
use Rattle.std.specs.Prelude.{Bool, true, false, cond, ◌&&◌, List, ℕ, ℤ, Float}
use Rattle.std.specs.Float.Ieee.Scale.{finite}
use Rattle.answers.specs.Answers.{Answer}
use Rattle.answers.specs.Answers.{said}
use Rattle.boxes.specs.declared.Point.{Point}
use Rattle.rays.specs.declared.RaycastResult.{RaycastResult}
use Rattle.rays.specs.declared.RaycastResult.TheVariants.{On, Inside, Neither}
use Rattle.rays.specs.Raycast.{cast_of}
use Rattle.room.specs.Numbers.{up_to}
use Rattle.rings.specs.Checks.{Checked}
use Rattle.rings.specs.Ring.{wide, side_at, holds_height, meeting}
use Rattle.rings.specs.Checks.{ring_checked, when_sound}
use Rattle.rings.specs.RingTest.{ring_test}

abbrev pub is_on : RaycastResult → Bool
is_on On = true
is_on Inside = false
is_on Neither = false

abbrev pub is_inside : RaycastResult → Bool
is_inside On = false
is_inside Inside = true
is_inside Neither = false

-- what `raycast` says of segment i
abbrev pub cast_at : (ℕ → Float) → ℕ → Point → RaycastResult
cast_at ring i p = cast_of (side_at ring i).a (side_at ring i).b p

-- the ring test of listed segments
abbrev pub test_of : (ℕ → Float) → Point → Bool → List ℕ → Bool
test_of ring p edge listed = ring_test (λ i. is_on (cast_at ring i p)) (λ i. is_inside (cast_at ring i p)) edge listed

-- the ring test of those among the first n segments whose own closed height range holds p's height
abbrev pub scan_of : (ℕ → Float) → ℕ → Point → Bool → Bool
scan_of ring n p edge = test_of ring p edge (up_to (λ i. holds_height (side_at ring i) p.y) n 0)

-- "A ring without an index is scanned": the ring test by scan, of a ring that passed its checks.
-- "a query that is NaN or infinite .. is outside"
abbrev pub scan_test : (ℕ → Float) → ℕ → Point → Bool → Answer
scan_test ring points p edge = cond (finite p.x && finite p.y) (said (test_of ring p edge (meeting ring points p.y))) (Ok false)

-- the checks come first
unfoldable pub scan_tested_by : Checked → (ℕ → Float) → ℕ → Point → Bool → Answer
scan_tested_by checked ring points p edge = when_sound checked (scan_test ring points p edge)

abbrev pub scan_tested : List ℤ → ℕ → Point → Bool → Answer
scan_tested ring points p edge = scan_tested_by (ring_checked ring points) (wide ring) points p edge
