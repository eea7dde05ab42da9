-- A polygon in well-known binary, as OGC 06-103r4, clause 8, has it, field after field:
--
--     WKBPolygon { byte byteOrder; uint32 wkbType = 3; uint32 numRings; LinearRing rings[numRings] }
--     LinearRing { uint32 numPoints; Point points[numPoints] }
--     Point      { double x; double y }
--
-- Reading goes from left to right. What it gives is a value and the place behind its bytes, or the refusal at the first field that is at fault.
use Rattle.std.specs.Prelude.{ℕ, zero, suc, ◌+◌, List, [], ◌∷◌, cond, leb, eqb, length}
use Rattle.wkb_fields.specs.declared.ByteOrder.{ByteOrder}
use Rattle.wkb_fields.specs.declared.ByteOrder.TheVariants.{Big, Little}
use Rattle.wkb_fields.specs.Fields.{field_of}
use Rattle.wkb_shape.specs.declared.WkbRefusal.{WkbRefusal}
use Rattle.wkb_shape.specs.declared.WkbRefusal.TheVariants.{Ends, Unknown}

-- a point by the patterns of its two doubles, a ring, a polygon
abbrev pub Point : Type 0
Point = ℕ × ℕ

abbrev pub Ring : Type 0
Ring = List Point

abbrev pub Shape : Type 0
Shape = List Ring

pub data Got (A : Type 0) : Type 0 where
  got : A → ℕ → Got A
  stop : WkbRefusal → Got A

-- one thing read after another
unfoldable pub then : {A B : Type 0} → Got A → (A → ℕ → Got B) → Got B
then (got x next) f = f x next
then (stop why) f = stop why

module _ (bytes : List ℕ) where
  -- a field of w bytes; one whose bytes are not all there is 10, at its first byte
  unfoldable pub field : ByteOrder → ℕ → ℕ → Got ℕ
  field order w at = cond (leb (at + w) (length bytes)) (got (field_of order w bytes at) (at + w)) (stop (Ends at))

  module _ (order : ByteOrder) where
    -- every double is a field of its own
    unfoldable pub point : ℕ → Got Point
    point at = then (field order 8 at) (λ x p. then (field order 8 p) (λ y q. got (x, y) q))

    unfoldable pub points : ℕ → ℕ → Got Ring
    points zero at = got [] at
    points (suc n) at = then (point at) (λ first p. then (points n p) (λ others q. got (first ∷ others) q))

    unfoldable pub ring : ℕ → Got Ring
    ring at = then (field order 4 at) (λ n p. points n p)

    unfoldable pub rings : ℕ → ℕ → Got Shape
    rings zero at = got [] at
    rings (suc n) at = then (ring at) (λ first p. then (rings n p) (λ others q. got (first ∷ others) q))

  -- the byte order's byte: 0 is XDR, 1 is NDR, and any other is 11, at that byte
  unfoldable pub order_at : ℕ → Got ByteOrder
  order_at at =
      then (field Little 1 at) (λ b p. cond (eqb b 0) (got Big p) (cond (eqb b 1) (got Little p) (stop (Unknown at))))

  -- the type, which is 3 for a polygon; any other is 11
  unfoldable pub type_at : ByteOrder → ℕ → Got ℕ
  type_at order at = then (field order 4 at) (λ t p. cond (eqb t 3) (got t p) (stop (Unknown at)))

  unfoldable pub count_at : ByteOrder → ℕ → Got (ByteOrder × ℕ)
  count_at order at = then (field order 4 at) (λ n p. got (order, n) p)

  -- byte order, type and ring count
  unfoldable pub header : ℕ → Got (ByteOrder × ℕ)
  header at = then (order_at at) (λ order p. then (type_at order p) (λ t q. count_at order q))

  -- a polygon that starts at a place
  unfoldable pub polygon : ℕ → Got (ByteOrder × Shape)
  polygon at = then (header at) (λ h p. then (rings h.0 h.1 p) (λ shape q. got (h.0, shape) q))

  -- all of the bytes are one polygon; what is left over is 10, at its first byte
  unfoldable pub whole : Got (ByteOrder × Shape)
  whole = then (polygon 0) (λ read end. cond (eqb end (length bytes)) (got read end) (stop (Ends end)))
