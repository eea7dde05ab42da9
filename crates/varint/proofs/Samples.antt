-- Worked cases: 01's sample sheet, and the place of a refusal and the rest of the room.
use Rattle.std.specs.Prelude.{Ok, Err}
use mathlib.Core.Path.{◌≡◌, refl}
use mathlib.Core.List.{[], ◌∷◌, ◌++◌}
use lib.ListN.{replicate}
use Rattle.answers.specs.declared.Refusal.TheVariants.{NoRoom, Damaged, Loose}
use Rattle.room.specs.Room.{padded}
use Rattle.varint.specs.Leb128.{decode, size, encode_in, encode}
use Rattle.varint.specs.Uvarint.{read_uvarint, append_uvarint}

-- "300 is AC 02"
pub encode_300 : encode 300 ≡ 0xAC ∷ 0x02 ∷ []
unfolding encode encode_in
encode_300 = refl

-- "80 00 refuses 15, place 0 (CR 6)"
pub read_80_00 : read_uvarint 64 (0x80 ∷ 0x00 ∷ []) 0 ≡ Err (Loose 0)
unfolding read_uvarint decode size encode encode_in
read_80_00 = refl

-- "Nine FF then 01 reads 18,446,744,073,709,551,615; nine FF then 7F refuses 15, place 0 (CR 6)"
pub read_01 : read_uvarint 64 (replicate 9 0xFF ++ 0x01 ∷ []) 0 ≡ Ok (18446744073709551615, 10)
unfolding read_uvarint decode size encode encode_in
read_01 = refl

pub read_7_f : read_uvarint 64 (replicate 9 0xFF ++ 0x7F ∷ []) 0 ≡ Err (Loose 0)
unfolding read_uvarint decode size encode encode_in
read_7_f = refl

-- "Ten bytes 80: ends early. Eleven: too long. Both 9."
pub read_ten : read_uvarint 64 (replicate 10 0x80) 0 ≡ Err (Damaged 0)
unfolding read_uvarint decode size
read_ten = refl

pub read_eleven : read_uvarint 64 (replicate 11 0x80) 0 ≡ Err (Damaged 0)
unfolding read_uvarint decode size
read_eleven = refl

-- too long even where the eleventh byte would end it, and the place is the field's
pub read_place : read_uvarint 64 (0x07 ∷ replicate 10 0x80 ++ 0x00 ∷ []) 1 ≡ Err (Damaged 1)
unfolding read_uvarint decode size
read_place = refl

-- what stands before stays, and the rest is zero
pub append_300 : append_uvarint (9 ∷ 9 ∷ 9 ∷ 9 ∷ []) 1 300 ≡ (Ok 3, 9 ∷ 0xAC ∷ 0x02 ∷ 0 ∷ [])
unfolding append_uvarint encode encode_in padded
append_300 = refl

-- one byte is too little room
pub append_short : append_uvarint (9 ∷ 9 ∷ []) 1 300 ≡ (Err NoRoom, 0 ∷ 0 ∷ [])
unfolding append_uvarint encode encode_in padded
append_short = refl
