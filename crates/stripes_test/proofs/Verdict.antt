-- The ways through the ring test. Assumes nothing.
use Rattle.std.specs.Prelude.{Ok}
use mathlib.Core.Path.{◌≡◌}
use mathlib.Core.Bool.{Bool, true, false, ◌&&◌}
use mathlib.Core.List.{List}
use Prim.Native.Nat.{ℕ}
use lib.Ieee.{Float}
use lib.Ieee.Scale.{finite}
use Rattle.boxes.specs.declared.Point.{Point}
use Rattle.rings.specs.Checks.{Checked}
use Rattle.rings.specs.Ring.{segments}
use Rattle.stripes_find.specs.Search.{searched}
use Rattle.stripes_test.specs.Test.{verdict, stripes_tested_by}

module _ (checked : Checked) (ring : ℕ → Float) (points : ℕ) (least height : Float) (stripes list : List ℕ) (p : Point) (edge : Bool) where
  pub tested_unfit : checked ≡ Ok tt → (finite p.x && finite p.y) ≡ false → stripes_tested_by checked ring points least height stripes list p edge ≡ Ok false
  unfolding stripes_tested_by
  tested_unfit e f = rw (e, f)

  pub tested_sound : checked ≡ Ok tt → (finite p.x && finite p.y) ≡ true
      → stripes_tested_by checked ring points least height stripes list p edge ≡ verdict ring p edge (searched ring (segments points) least height stripes list p.y)
  unfolding stripes_tested_by
  tested_sound e f = rw (e, f)
