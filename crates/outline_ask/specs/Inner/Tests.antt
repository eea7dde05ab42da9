-- How the two tests ask one ring, for the functions inside. The public meaning is in Inside.antt.
use Rattle.std.specs.Prelude.{ℕ, ℤ, List, Bool}
use Rattle.answers.specs.Answers.{Answer, said}
use Rattle.boxes.specs.Boxes.{holds}
use Rattle.rings.specs.Ring.{wide, segments}
use Rattle.grid.specs.Rings.{grid_inside}
use Rattle.outline_check.specs.Outline.{size_at, ring_of}
use Rattle.outline_record.specs.Record.{rect_at, grid_box_holds}
use Rattle.outline_ring.specs.RingIndex.{lent_in, ring_asked}
use Rattle.outline_ask.specs.declared.FloatTest.{FloatTest}
use Rattle.outline_ask.specs.declared.GridTest.{GridTest}

-- ring k of an outline, by a test of a ring's numbers, its count of segments and k
abbrev pub on_rings : (List ℤ → ℕ → ℕ → Bool → Answer) → List ℕ → List ℤ → ℕ → Bool → Answer
on_rings test sizes coords k edge = test (ring_of sizes coords k) (segments (size_at sizes k)) k edge

abbrev pub float_boxed : FloatTest → Bool
float_boxed t = holds (rect_at t.boxes.now 0) t.p

abbrev pub float_answer : FloatTest → List ℤ → ℕ → ℕ → Bool → Answer
float_answer t ring n k edge = ring_asked (lent_in t.lent) k (rect_at t.boxes.now k) (wide ring) n t.p edge

abbrev pub grid_boxed : GridTest → Bool
grid_boxed t = grid_box_holds t.boxes.now 0 t.x t.y

abbrev pub grid_answer : GridTest → List ℤ → ℕ → ℕ → Bool → Answer
grid_answer t ring n k edge = said (grid_inside ring n t.x t.y edge)
