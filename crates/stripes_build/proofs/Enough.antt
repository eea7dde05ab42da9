-- Building is not refused where the room is as large as the rules call for, and the ring calls for at most 65,536 stripes. Assumes nothing.
use Rattle.std.specs.Prelude.{Ok}
use Prim.Native.Nat.{ℕ, ◌*◌, ◌≤◌}
use mathlib.Core.Path.{◌≡◌, ◌∙◌}
use mathlib.Core.List.{List}
use native.Mathlib.Omega.{arith}
use lib.ListN.{length}
use lib.IntN.{ℤ}
use Rattle.room.specs.Room.{pad}
use Rattle.rings.specs.Ring.{wide, segments}
use Rattle.rings.specs.Checks.{ring_checked}
use Rattle.stripes_count.specs.Count.{stripe_count}
use Rattle.stripes_index.specs.Index.{least_y, height_y, table_of, list_of, entries_of}
use Rattle.stripes_build.specs.Build.{striped, crosses_in, stats_of, stripes_built}
use Rattle.stripes_build.proofs.Building.{filled_fits, indexed_few, from_reached, built_sound}

-- Every ring that passed its checks and reaches the threshold gets its stripes.
pub builds : (ring : List ℤ) (points threshold : ℕ) (stripes list : List ℕ) → ring_checked ring points ≡ Ok tt → threshold ≤ segments points
    → stripe_count (wide ring) (segments points) ≤ 65536 → stripe_count (wide ring) (segments points) * 2 ≤ length stripes
    → entries_of (crosses_in (wide ring) (segments points)) (segments points) (stripe_count (wide ring) (segments points)) ≤ length list
    → stripes_built ring points threshold stripes list
    ≡ (
      striped (least_y (wide ring) (segments points)) (height_y (wide ring) (segments points)) (stats_of (wide ring) (segments points)),
      pad (length stripes) (table_of (crosses_in (wide ring) (segments points)) (segments points) (stripe_count (wide ring) (segments points))),
      pad (length list) (list_of (crosses_in (wide ring) (segments points)) (segments points) (stripe_count (wide ring) (segments points))),
    )
builds ring points threshold stripes list sound reached few enough roomy =
    let n = segments points in
    built_sound (ring_checked ring points) (wide ring) points threshold stripes list sound
    ∙ from_reached (wide ring) n threshold stripes list reached
    ∙ indexed_few (wide ring) n stripes list (omega arith) enough
    ∙ filled_fits (wide ring) n (least_y (wide ring) n) (height_y (wide ring) n) (stripe_count (wide ring) n) stripes list roomy
