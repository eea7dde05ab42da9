-- Demand 3 for stripes, said of the listing call. Assumes nothing.
use mathlib.Core.Path.{◌≡◌, ap, ◌∙◌}
use mathlib.Core.List.{List}
use Prim.Native.Nat.{ℕ, ◌*◌}
use mathlib.Core.Bool.{true}
use lib.ListN.{take}
use lib.IntN.{ℤ}
use lib.Ieee.{Float}
use lib.Ieee.Scale.{finite}
use Rattle.rings.specs.Ring.{wide, meeting}
use Rattle.rings.specs.I32s.{I32s}
use Rattle.stripes_build.specs.declared.StripesStats.{StripesStats}
use Rattle.stripes_build.specs.Build.{striped, stripes_built}
use Rattle.stripes_find.specs.Search.{Reading, complete}
use Rattle.stripes_find.specs.Listing.{poured, stripes_listed}
use Rattle.stripes_find.proofs.Pouring.{listed_sound}
use Rattle.stripes_agree.proofs.Demand as found

module _ (ring : List ℤ) (points threshold : ℕ) (nums : I32s ring) (stripes list : List ℕ) (least height : Float) (stats : StripesStats) (s l : List ℕ)
    (built : stripes_built ring points threshold stripes list ≡ (striped least height stats, s, l)) (y : Float) where
  -- the listing call lists the segments whose own range holds y, in any room that takes them
  pub demand_3 : (out : List ℕ) → finite y ≡ true
      → stripes_listed ring points least height (take (stats.stripes * 2) s) (take stats.entries l) y out
      ≡ poured (record { found = meeting (wide ring) points y; ending = complete }) out
  demand_3 out f =
      listed_sound _ (wide ring) points least height (take (stats.stripes * 2) s) (take stats.entries l) y out (found.built_sound ring points threshold nums stripes list least height stats s l built y) f
      ∙ ap (λ (r : Reading). poured r out) (found.finds_meeting ring points threshold nums stripes list least height stats s l built y)
