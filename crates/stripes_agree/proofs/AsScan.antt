-- The ring test by stripes, with the index built from the ring, is the ring test of the segments whose own height range holds the point's
-- height: the scan's, for every float point and both edge rules. Assumes nothing.
use Rattle.std.specs.Prelude.{Ok}
use mathlib.Core.Path.{◌≡◌, refl, ap, ◌∙◌}
use mathlib.Core.Bool.{Bool, true, false, cond, ◌&&◌}
use mathlib.Core.List.{List}
use Prim.Native.Nat.{ℕ, ◌*◌}
use lib.ListN.{take}
use lib.IntN.{ℤ}
use lib.Ieee.{Float}
use lib.Ieee.Scale.{finite}
use Rattle.answers.specs.Answers.{said}
use Rattle.boxes.specs.declared.Point.{Point}
use Rattle.rings.specs.Ring.{wide, meeting}
use Rattle.rings.specs.I32s.{I32s}
use Rattle.stripes_build.specs.declared.StripesStats.{StripesStats}
use Rattle.stripes_build.specs.Build.{striped, stripes_built}
use Rattle.cast_test.specs.Test.{test_of, scan_test}
use Rattle.stripes_test.specs.Test.{verdict, stripes_tested}
use Rattle.stripes_test.proofs.Verdict.{tested_unfit, tested_sound}
use Rattle.stripes_agree.proofs.Demand.{built_sound, finds_meeting}

module _ (ring : List ℤ) (points threshold : ℕ) (nums : I32s ring) (stripes list : List ℕ) (least height : Float) (stats : StripesStats) (s l : List ℕ)
    (built : stripes_built ring points threshold stripes list ≡ (striped least height stats, s, l)) where
  pub tests_as_scan : (p : Point) (edge : Bool)
      → stripes_tested ring points least height (take (stats.stripes * 2) s) (take stats.entries l) p edge
      ≡ scan_test (wide ring) points p edge
  tests_as_scan p edge = go (finite p.x && finite p.y) refl
    where
      go : (b : Bool) → (finite p.x && finite p.y) ≡ b
          → stripes_tested ring points least height (take (stats.stripes * 2) s) (take stats.entries l) p edge
          ≡ cond b (said (test_of (wide ring) p edge (meeting (wide ring) points p.y))) (Ok false)
      go true e =
          tested_sound _ (wide ring) points least height (take (stats.stripes * 2) s) (take stats.entries l) p edge
          (built_sound ring points threshold nums stripes list least height stats s l built p.y) e
          ∙ ap (verdict (wide ring) p edge) (finds_meeting ring points threshold nums stripes list least height stats s l built p.y)
      go false e =
          tested_unfit _ (wide ring) points least height (take (stats.stripes * 2) s) (take stats.entries l) p edge
          (built_sound ring points threshold nums stripes list least height stats s l built p.y) e
