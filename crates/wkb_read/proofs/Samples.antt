-- S, the square of 01's sample sheet, as GEOS writes it in either byte order (oracle/geos/polygons.txt): the bytes stand here one by one, so that which
-- order comes first does not rest on a definition of ours.
use Rattle.std.specs.Prelude.{Ok}
use Prim.Native.Nat.{ℕ}
use mathlib.Core.Path.{◌≡◌, refl}
use mathlib.Core.List.{List, [], ◌∷◌}
use lib.IntN.{ℤ, pos}
use lib.Ieee.{Float, binary64, of_bits, mul, lt}
use Rattle.whole.specs.Round.{round_to}
use Rattle.room.specs.Room.{padded}
use Rattle.wkb_fields.specs.declared.ByteOrder.TheVariants.{Big, Little}
use Rattle.wkb_fields.specs.Fields.{little_end, number_in, field_of, little_bytes, bytes_in}
use Rattle.wkb_shape.specs.Wkb.{Shape, got, then, field, point, points, ring, rings, order_at, type_at, count_at, header, polygon, whole}
use Rattle.wkb_shape.specs.Written.{order_byte, point_bytes, points_bytes, ring_bytes, rings_bytes, written}
use Rattle.wkb_read.specs.Stored.{all_storable, ring_coords, coords_of, sizes_of}
use Rattle.wkb_read.specs.Judged.{fault_at, each_ring, judged}
use Rattle.wkb_read.specs.Read.{Outcome, stored, after_judged, after_whole, wkb_read}

-- byte order, type, ring count, point count; then a point a line
little_square : List ℕ
little_square =
    0x01 ∷ 0x03 ∷ 0x00 ∷ 0x00 ∷ 0x00 ∷ 0x01 ∷ 0x00 ∷ 0x00 ∷ 0x00 ∷ 0x05 ∷ 0x00 ∷ 0x00 ∷ 0x00 ∷
    0x00 ∷ 0x00 ∷ 0x00 ∷ 0x00 ∷ 0x00 ∷ 0x00 ∷ 0x00 ∷ 0x00 ∷ 0x00 ∷ 0x00 ∷ 0x00 ∷ 0x00 ∷ 0x00 ∷ 0x00 ∷ 0x00 ∷ 0x00 ∷
    0x00 ∷ 0x00 ∷ 0x00 ∷ 0x00 ∷ 0x00 ∷ 0x00 ∷ 0x24 ∷ 0x40 ∷ 0x00 ∷ 0x00 ∷ 0x00 ∷ 0x00 ∷ 0x00 ∷ 0x00 ∷ 0x00 ∷ 0x00 ∷
    0x00 ∷ 0x00 ∷ 0x00 ∷ 0x00 ∷ 0x00 ∷ 0x00 ∷ 0x24 ∷ 0x40 ∷ 0x00 ∷ 0x00 ∷ 0x00 ∷ 0x00 ∷ 0x00 ∷ 0x00 ∷ 0x24 ∷ 0x40 ∷
    0x00 ∷ 0x00 ∷ 0x00 ∷ 0x00 ∷ 0x00 ∷ 0x00 ∷ 0x00 ∷ 0x00 ∷ 0x00 ∷ 0x00 ∷ 0x00 ∷ 0x00 ∷ 0x00 ∷ 0x00 ∷ 0x24 ∷ 0x40 ∷
    0x00 ∷ 0x00 ∷ 0x00 ∷ 0x00 ∷ 0x00 ∷ 0x00 ∷ 0x00 ∷ 0x00 ∷ 0x00 ∷ 0x00 ∷ 0x00 ∷ 0x00 ∷ 0x00 ∷ 0x00 ∷ 0x00 ∷ 0x00 ∷ []

big_square : List ℕ
big_square =
    0x00 ∷ 0x00 ∷ 0x00 ∷ 0x00 ∷ 0x03 ∷ 0x00 ∷ 0x00 ∷ 0x00 ∷ 0x01 ∷ 0x00 ∷ 0x00 ∷ 0x00 ∷ 0x05 ∷
    0x00 ∷ 0x00 ∷ 0x00 ∷ 0x00 ∷ 0x00 ∷ 0x00 ∷ 0x00 ∷ 0x00 ∷ 0x00 ∷ 0x00 ∷ 0x00 ∷ 0x00 ∷ 0x00 ∷ 0x00 ∷ 0x00 ∷ 0x00 ∷
    0x40 ∷ 0x24 ∷ 0x00 ∷ 0x00 ∷ 0x00 ∷ 0x00 ∷ 0x00 ∷ 0x00 ∷ 0x00 ∷ 0x00 ∷ 0x00 ∷ 0x00 ∷ 0x00 ∷ 0x00 ∷ 0x00 ∷ 0x00 ∷
    0x40 ∷ 0x24 ∷ 0x00 ∷ 0x00 ∷ 0x00 ∷ 0x00 ∷ 0x00 ∷ 0x00 ∷ 0x40 ∷ 0x24 ∷ 0x00 ∷ 0x00 ∷ 0x00 ∷ 0x00 ∷ 0x00 ∷ 0x00 ∷
    0x00 ∷ 0x00 ∷ 0x00 ∷ 0x00 ∷ 0x00 ∷ 0x00 ∷ 0x00 ∷ 0x00 ∷ 0x40 ∷ 0x24 ∷ 0x00 ∷ 0x00 ∷ 0x00 ∷ 0x00 ∷ 0x00 ∷ 0x00 ∷
    0x00 ∷ 0x00 ∷ 0x00 ∷ 0x00 ∷ 0x00 ∷ 0x00 ∷ 0x00 ∷ 0x00 ∷ 0x00 ∷ 0x00 ∷ 0x00 ∷ 0x00 ∷ 0x00 ∷ 0x00 ∷ 0x00 ∷ 0x00 ∷ []

-- the doubles 0 and 10 by their patterns
abbrev nought : ℕ
nought = 0

abbrev ten : ℕ
ten = 0x4024000000000000

square : Shape
square = ((nought, nought) ∷ (ten, nought) ∷ (ten, ten) ∷ (nought, ten) ∷ (nought, nought) ∷ []) ∷ []

-- the definition of reading takes each for the square
little_whole : whole little_square ≡ got (Little, square) 93
unfolding little_square square whole polygon header order_at type_at count_at rings ring points point field then field_of number_in little_end
little_whole = refl

big_whole : whole big_square ≡ got (Big, square) 93
unfolding big_square square whole polygon header order_at type_at count_at rings ring points point field then field_of number_in little_end
big_whole = refl

-- the definition of writing gives these very bytes
little_written : written Little square ≡ little_square
unfolding little_square square written rings_bytes ring_bytes points_bytes point_bytes order_byte bytes_in little_bytes
little_written = refl

big_written : written Big square ≡ big_square
unfolding big_square square written rings_bytes ring_bytes points_bytes point_bytes order_byte bytes_in little_bytes
big_written = refl

-- And the whole call, at scale 1, into rooms of sevens for two sizes and twelve numbers: one ring of five points, its numbers, and zeros behind.
sevens : List ℕ
sevens = 7 ∷ 7 ∷ []

sevens_z : List ℤ
sevens_z = pos 7 ∷ pos 7 ∷ pos 7 ∷ pos 7 ∷ pos 7 ∷ pos 7 ∷ pos 7 ∷ pos 7 ∷ pos 7 ∷ pos 7 ∷ pos 7 ∷ pos 7 ∷ []

abbrev one : Float
one = of_bits binary64 0x3FF0000000000000

read_square : Outcome
read_square =
    (Ok (1, 10), 5 ∷ 0 ∷ [], pos 0 ∷ pos 0 ∷ pos 10 ∷ pos 0 ∷ pos 10 ∷ pos 10 ∷ pos 0 ∷ pos 10 ∷ pos 0 ∷ pos 0 ∷ pos 0 ∷ pos 0 ∷ [])

little_read : wkb_read sevens sevens_z one little_square ≡ read_square
unfolding wkb_read after_whole after_judged stored judged each_ring fault_at all_storable ring_coords coords_of sizes_of padded mul round_to lt of_bits read_square sevens sevens_z square
little_read = rw little_whole refl

big_read : wkb_read sevens sevens_z one big_square ≡ read_square
unfolding wkb_read after_whole after_judged stored judged each_ring fault_at all_storable ring_coords coords_of sizes_of padded mul round_to lt of_bits read_square sevens sevens_z square
big_read = rw big_whole refl
