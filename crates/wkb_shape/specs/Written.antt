-- The same format the other way: the bytes of a polygon in either order. Nothing here writes bytes; it says which bytes a polygon's are, so that the
-- reader's definition can be held against it (`read_back` of proofs/Back.antt).
use Rattle.std.specs.Prelude.{ℕ, ◌^◌, ◌<◌, List, [], ◌∷◌, ◌++◌, length}
use Rattle.wkb_fields.specs.declared.ByteOrder.{ByteOrder}
use Rattle.wkb_fields.specs.declared.ByteOrder.TheVariants.{Big, Little}
use Rattle.wkb_fields.specs.Fields.{bytes_in}
use Rattle.wkb_shape.specs.Wkb.{Point, Ring, Shape}

unfoldable pub order_byte : ByteOrder → ℕ
order_byte Big = 0
order_byte Little = 1

module _ (order : ByteOrder) where
  unfoldable pub point_bytes : Point → List ℕ
  point_bytes (x, y) = bytes_in order 8 x ++ bytes_in order 8 y

  unfoldable pub points_bytes : Ring → List ℕ
  points_bytes [] = []
  points_bytes (p ∷ ps) = point_bytes p ++ points_bytes ps

  unfoldable pub ring_bytes : Ring → List ℕ
  ring_bytes r = bytes_in order 4 (length r) ++ points_bytes r

  unfoldable pub rings_bytes : Shape → List ℕ
  rings_bytes [] = []
  rings_bytes (r ∷ rs) = ring_bytes r ++ rings_bytes rs

  unfoldable pub written : Shape → List ℕ
  written shape = order_byte order ∷ (bytes_in order 4 3 ++ (bytes_in order 4 (length shape) ++ rings_bytes shape))

-- what the fields can hold: patterns of 64 bits, counts of 32
unfoldable pub HeldPoints : Ring → Type 0
HeldPoints [] = Unit
HeldPoints ((x, y) ∷ ps) = (x < 256 ^ 8) × (y < 256 ^ 8) × HeldPoints ps

unfoldable pub HeldRings : Shape → Type 0
HeldRings [] = Unit
HeldRings (r ∷ rs) = (length r < 256 ^ 4) × HeldPoints r × HeldRings rs

pub record Held (shape : Shape) : Type 0 where
  pub count : length shape < 256 ^ 4
  pub each : HeldRings shape
