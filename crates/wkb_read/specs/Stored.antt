-- 02, CR 1: "Each double is multiplied by the scale once and rounded as in Integer mode." What is stored of a polygon that was read.
use Rattle.std.specs.Prelude.{ℕ, List, [], ◌∷◌, ◌++◌, Bool, true, ◌&&◌, length, ℤ, Float}
use Rattle.std.specs.Int.Signed.{le_z}
use Rattle.std.specs.Float.{binary64}
use Rattle.std.specs.Float.Ieee.{of_bits, mul}
use Rattle.std.specs.Float.Ieee.Scale.{finite}
use Rattle.whole.specs.Held.{first, last}
use Rattle.whole.specs.Round.{round_to}
use Rattle.wkb_shape.specs.Wkb.{Ring, Shape}

module _ (scale : Float) where
  -- one rounded product
  abbrev pub scaled_of : ℕ → Float
  scaled_of pattern = mul binary64 (of_bits binary64 pattern) scale

  -- "round .. to the nearest whole number, halves away from zero, held to the i64 ends"
  abbrev pub stored_of : ℕ → ℤ
  stored_of pattern = round_to 63 (scaled_of pattern)

  -- finite, and in i32 after rounding
  abbrev pub storable : ℕ → Bool
  storable pattern = finite (scaled_of pattern) && le_z (first 31) (stored_of pattern) && le_z (stored_of pattern) (last 31)

  -- each coordinate of a ring can be stored
  unfoldable pub all_storable : Ring → Bool
  all_storable [] = true
  all_storable ((x, y) ∷ ps) = storable x && storable y && all_storable ps

  -- a ring's numbers, two a point, and those of all rings one after the other, as an outline is lent
  unfoldable pub ring_coords : Ring → List ℤ
  ring_coords [] = []
  ring_coords ((x, y) ∷ ps) = stored_of x ∷ stored_of y ∷ ring_coords ps

  unfoldable pub coords_of : Shape → List ℤ
  coords_of [] = []
  coords_of (r ∷ rs) = ring_coords r ++ coords_of rs

-- the point count of each ring
unfoldable pub sizes_of : Shape → List ℕ
sizes_of [] = []
sizes_of (r ∷ rs) = length r ∷ sizes_of rs
