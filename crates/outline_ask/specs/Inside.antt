-- 01, "Asking": the inside question of an outline as it is lent, with its record of boxes and the indexes of its rings.
use Rattle.std.specs.Prelude.{Ok, Err, Bool, true, false, cond, List, ℕ, zero, suc, ◌+◌, ◌-◌, ◌*◌, leb, length, ℤ}
use Rattle.answers.specs.Answers.{Answer}
use Rattle.answers.specs.Answers.{said}
use Rattle.boxes.specs.declared.Point.{Point}
use Rattle.boxes.specs.Boxes.{holds}
use Rattle.rings.specs.Ring.{wide, segments}
use Rattle.rings.specs.Checks.{when_sound}
use Rattle.grid.specs.Rings.{grid_inside}
use Rattle.outline_check.specs.declared.Outline.{Outline}
use Rattle.outline_check.specs.Outline.{rings, size_at, ring_of}
use Rattle.outline_check.specs.Rules.{outline_with}
use Rattle.outline_record.specs.Record.{rect_at, grid_box_holds}
use Rattle.outline_ring.specs.RingIndex.{Indexes, ring_asked}
use Rattle.outline_ask.specs.declared.Query.{Query}
use Rattle.outline_ask.specs.declared.Query.TheVariants.{Outside, Float as FloatPlace, Grid as WholePlace}
use Rattle.outline_ask.specs.Query.{scaled_query}

-- "The first ring that settles the answer ends the reading": the exterior does unless it holds the point
abbrev pub after_exterior : Answer → Answer → Answer
after_exterior (Ok true) later = later
after_exterior (Ok false) later = Ok false
after_exterior (Err why) later = Err why

-- and a hole does if it holds the point
abbrev pub after_hole : Answer → Answer → Answer
after_hole (Ok true) later = Ok false
after_hole (Ok false) later = later
after_hole (Err why) later = Err why

-- n holes from ring k on; a point that none of them holds is in
unfoldable pub holes_from : (ℕ → Answer) → ℕ → ℕ → Answer
holes_from hole zero k = Ok true
holes_from hole (suc n) k = after_hole (hole k) (holes_from hole n (k + 1))

-- "outside unless it lies in the exterior's closed box, then the exterior test, then each hole": ring 0, then the others by rising number.
-- "Holes are always tested with the edge excluded". `test` is the ring test of a ring by its number, with an edge rule.
unfoldable pub through_rings : Bool → (ℕ → Bool → Answer) → ℕ → Bool → Answer
through_rings in_box test count edge =
    cond in_box (after_exterior (test 0 edge) (holes_from (λ k. test k false) (count - 1) 1)) (Ok false)

-- ring k's test at a float place, through its index; the box of its tree is the ring's own, as the record has it
abbrev pub float_test : List ℕ → List ℤ → List ℤ → Indexes → Point → ℕ → Bool → Answer
float_test sizes coords boxes x p k edge = ring_asked x k (rect_at boxes k) (wide (ring_of sizes coords k)) (segments (size_at sizes k)) p edge

-- "without index"
abbrev pub grid_holds : List ℕ → List ℤ → ℤ → ℤ → ℕ → Bool → Bool
grid_holds sizes coords px py k edge = grid_inside (ring_of sizes coords k) (segments (size_at sizes k)) px py edge

abbrev pub grid_test : List ℕ → List ℤ → ℤ → ℤ → ℕ → Bool → Answer
grid_test sizes coords px py k edge = said (grid_holds sizes coords px py k edge)

-- the exterior's box is the one that the record has
abbrev pub float_asked : List ℕ → List ℤ → List ℤ → Indexes → Point → Bool → Answer
float_asked sizes coords boxes x p edge = through_rings (holds (rect_at boxes 0) p) (float_test sizes coords boxes x p) (rings sizes) edge

abbrev pub grid_asked : List ℕ → List ℤ → List ℤ → ℤ → ℤ → Bool → Answer
grid_asked sizes coords boxes px py edge = through_rings (grid_box_holds boxes 0 px py) (grid_test sizes coords px py) (rings sizes) edge

abbrev pub asked_at : List ℕ → List ℤ → List ℤ → Indexes → Bool → Query → Answer
asked_at sizes coords boxes x edge Outside = Ok false
asked_at sizes coords boxes x edge (FloatPlace px py) = float_asked sizes coords boxes x (record { x = px; y = py }) edge
asked_at sizes coords boxes x edge (WholePlace px py) = grid_asked sizes coords boxes px py edge

-- the record has four numbers a ring; room behind them is no fault
abbrev pub record_fits : List ℕ → List ℤ → Bool
record_fits sizes boxes = leb (4 * rings sizes) (length boxes)

-- rules 1 to 5, rule 3 also of the record, then the question
unfoldable pub inside_of : Outline → List ℕ → List ℤ → List ℤ → Indexes → Point → Bool → Answer
inside_of outline sizes coords boxes x p edge =
    when_sound (outline_with (record_fits sizes boxes) outline.scale sizes coords)
    (asked_at sizes coords boxes x edge (scaled_query outline p))
