-- How a polygon lies in its bytes, as passes over them go: where reading ends, told without what is read; and what stands at a place, whether or not
-- reading gets there. `rings_laid` of proofs/Laid.antt ties both to the definition of reading.
use Rattle.std.specs.Prelude.{Result, Ok, Err, ℕ, zero, suc, ◌+◌, ◌*◌, ◌≡◌, List, [], ◌∷◌, length}
use Rattle.wkb_fields.specs.declared.ByteOrder.{ByteOrder}
use Rattle.wkb_fields.specs.Fields.{field_of}
use Rattle.wkb_shape.specs.declared.WkbRefusal.{WkbRefusal}
use Rattle.wkb_shape.specs.Wkb.{Ring, Shape, Got, got, stop, rings}

-- Where a pass over fields ends.
abbrev pub Walked : Type 0
Walked = Result ℕ WkbRefusal

-- The byte order, and the place behind it.
abbrev pub Ordered : Type 0
Ordered = Result (ByteOrder × ℕ) WkbRefusal

-- What a polygon begins with: its byte order and its ring count; and the place behind that.
abbrev pub Header : Type 0
Header = Result (ByteOrder × ℕ × ℕ) WkbRefusal

-- What the bytes are: a polygon of so many rings, or not.
abbrev pub Shaped : Type 0
Shaped = Result (ByteOrder × ℕ) WkbRefusal

-- what reading gives, without the place
unfoldable pub value_of : {A : Type 0} → Got A → Result A WkbRefusal
value_of (got x next) = Ok x
value_of (stop why) = Err why

-- where reading ends
unfoldable pub end_of : {A : Type 0} → Got A → Walked
end_of (got x next) = Ok next
end_of (stop why) = Err why

module _ (bytes : List ℕ) where
  module _ (order : ByteOrder) where
    -- the n points that stand from a place on
    unfoldable pub points_of : ℕ → ℕ → Ring
    points_of zero at = []
    points_of (suc n) at = (field_of order 8 bytes at, field_of order 8 bytes (at + 8)) ∷ points_of n (at + 16)

    -- the point count that stands at a place, and the place behind the ring that it begins
    unfoldable pub count_of : ℕ → ℕ
    count_of at = field_of order 4 bytes at

    unfoldable pub next_of : ℕ → ℕ
    next_of at = at + 4 + 16 * count_of at

    -- the n rings that stand from a place on
    unfoldable pub rings_of : ℕ → ℕ → Shape
    rings_of zero at = []
    rings_of (suc n) at = points_of (count_of at) (at + 4) ∷ rings_of n (next_of at)

-- the bytes are, from byte 9 on, n rings and nothing more
abbrev pub Whole : List ℕ → ByteOrder → ℕ → Type 0
Whole bytes order n = end_of (rings bytes order n 9) ≡ Ok (length bytes)

-- What the pass over all bytes tells: the byte order and how many rings there are.
unfoldable pub order_told : Got ByteOrder → Ordered
order_told (got order next) = Ok (order, next)
order_told (stop why) = Err why

unfoldable pub header_told : Got (ByteOrder × ℕ) → Header
header_told (got (order, n) next) = Ok (order, n, next)
header_told (stop why) = Err why

unfoldable pub shape_told : Got (ByteOrder × Shape) → Shaped
shape_told (got (order, shape) end) = Ok (order, length shape)
shape_told (stop why) = Err why
