-- What the laws on a ring's tree ask of a ring, whatever its numbers are stored in, and that a stored ring has it. Assumes nothing.
use Rattle.std.specs.Prelude.{Ok}
use Prim.Native.Nat.{ℕ, ◌≤◌}
use mathlib.Core.Path.{◌≡◌}
use mathlib.Core.List.{List}
use lib.IntN.{ℤ}
use lib.Ieee.{Float}
use Rattle.rings.specs.Checks.{Checked}
use Rattle.rings.specs.Ring.{wide}
use Rattle.rings.specs.Checks.{ring_checked}
use Rattle.rings.proofs.Checks.{sound_ring}
use Rattle.tree.proofs.Order.{Numbered, whole_plain}

-- a ring that passed its checks has few enough points, and none at a height that is a NaN
pub record Searchable (checked : Checked) (ring : ℕ → Float) (points : ℕ) : Type 0 where
  pub few : checked ≡ Ok tt → points ≤ 4097
  pub plain : checked ≡ Ok tt → Numbered ring points

pub stored : (zs : List ℤ) (points : ℕ) → Searchable (ring_checked zs points) (wide zs) points
stored zs points = record { few = λ e. (sound_ring zs points e).few; plain = λ e k h. whole_plain _ }
