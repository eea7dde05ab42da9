-- What the laws over a ring's numbers ask of them, that each is a coordinate, holds of a stored ring. Assumes nothing.
use Rattle.std.specs.Prelude.{Ok}
use Prim.Native.Nat.{ℕ, ◌*◌, ◌<◌}
use mathlib.Core.Path.{◌≡◌}
use mathlib.Core.List.{List}
use native.Mathlib.Omega.{arith}
use lib.ListN.{get_or}
use lib.IntN.{ℤ, pos}
use Rattle.boxes.proofs.Sizes.{Coordinate, stored_coordinate}
use Rattle.rings.specs.Ring.{wide}
use Rattle.rings.specs.I32s.{I32s}
use Rattle.rings.specs.Checks.{ring_checked}
use Rattle.rings.proofs.Checks.{sound_ring}

pub ring_coordinates : (zs : List ℤ) (points : ℕ) → ring_checked zs points ≡ Ok tt → I32s zs → (k : ℕ) → k < points * 2 → Coordinate (wide zs k)
ring_coordinates zs points e nums k h = stored_coordinate (get_or zs k (pos 0)) (nums k (omega (arith, (sound_ring zs points e).sizes)))
