-- The inside question by the segments alone: no record and no index is lent. Each ring is tested by those of its segments whose own closed height
-- range holds the point's height.
use Rattle.std.specs.Prelude.{Ok, Bool, List, ℕ, ℤ, false}
use Rattle.answers.specs.Answers.{Answer}
use Rattle.answers.specs.Answers.{said}
use Rattle.boxes.specs.declared.Point.{Point}
use Rattle.boxes.specs.Boxes.{holds}
use Rattle.rings.specs.Ring.{wide, segments}
use Rattle.rings.specs.Checks.{when_sound}
use Rattle.cast_test.specs.Test.{scan_of}
use Rattle.tree.specs.Tree.{ring_box}
use Rattle.outline_check.specs.declared.Outline.{Outline}
use Rattle.outline_check.specs.Outline.{rings, size_at, ring_of}
use Rattle.outline_check.specs.Rules.{outline_checked}
use Rattle.outline_record.specs.Record.{box_numbers, grid_box_holds}
use Rattle.outline_ask.specs.declared.Query.{Query}
use Rattle.outline_ask.specs.declared.Query.TheVariants.{Outside, Float as FloatPlace, Grid as WholePlace}
use Rattle.outline_ask.specs.Query.{scaled_query}
use Rattle.outline_ask.specs.Inside.{through_rings, grid_test}

module _ (sizes : List ℕ) (coords : List ℤ) where
  -- ring k by its own segments
  abbrev pub plain_test : Point → ℕ → Bool → Answer
  plain_test p k edge = said (scan_of (wide (ring_of sizes coords k)) (segments (size_at sizes k)) p edge)

  -- the exterior's own box
  abbrev pub in_exterior : Point → Bool
  in_exterior p = holds (ring_box (wide (ring_of sizes coords 0)) (size_at sizes 0)) p

  abbrev pub grid_in_exterior : ℤ → ℤ → Bool
  grid_in_exterior px py = grid_box_holds (box_numbers (ring_of sizes coords 0) (size_at sizes 0)) 0 px py

  abbrev pub plain_asked : Bool → Query → Answer
  plain_asked edge Outside = Ok false
  plain_asked edge (FloatPlace px py) =
      let p : Point = record { x = px; y = py } in through_rings (in_exterior p) (plain_test p) (rings sizes) edge
  plain_asked edge (WholePlace px py) = through_rings (grid_in_exterior px py) (grid_test sizes coords px py) (rings sizes) edge

unfoldable pub plain_inside : Outline → List ℕ → List ℤ → Point → Bool → Answer
plain_inside outline sizes coords p edge =
    when_sound (outline_checked outline.scale sizes coords) (plain_asked sizes coords edge (scaled_query outline p))
