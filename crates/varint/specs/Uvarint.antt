-- 01's reader and writer of one number: what they answer, and what the writer leaves in the room.
use Rattle.std.specs.Prelude.{Result, Ok, Err, ℕ, ◌+◌, ◌/◌, ◌^◌, min, List, ◌++◌, Bool, cond, ◌&&◌, length, take, drop, replicate, leb, ltb, eqb}
use Rattle.answers.specs.declared.Refusal.{Refusal}
use Rattle.answers.specs.declared.Refusal.TheVariants.{NoRoom, Damaged, Loose}
use Rattle.room.specs.Room.{pad}
use Rattle.varint.specs.Leb128.{decode, size, encode}

-- the number that was read and the place past it, or why there is none
abbrev pub ReadUvarint : Type 0
ReadUvarint = Result (ℕ × ℕ) Refusal

-- the place past the number that was written, or why it was not
abbrev pub AppendUvarint : Type 0
AppendUvarint = Result ℕ Refusal

-- the most bytes that a reader of w bits takes, seven bits a byte. 01: "The reader takes at most ten bytes", its w being 64
abbrev pub most : ℕ → ℕ
most w = (w + 6) / 7

-- 02, CR 6: "A varint must now be the shortest for its value and must fit in 64 bits". The shortest form of a number is what the
-- standard's algorithm writes: no field that stands for the number is shorter, by the law `encode_shortest`.
abbrev pub tight : ℕ → List ℕ → Bool
tight w field = eqb (size field) (length (encode (decode field))) && ltb (decode field) (2 ^ w)

-- The number that starts at a place of a part. 01: "a varint that ends early or reaches an eleventh byte" is damage, "place the
-- byte where the field starts". 02, CR 6: one that is not tight is loose, "place the varint's first byte, tested when the varint is complete";
-- "early end and eleventh byte remain 9 and come first".
unfoldable pub read_uvarint : ℕ → List ℕ → ℕ → ReadUvarint
read_uvarint w part at =
    let field = drop at part in
    cond (leb (size field) (min (most w) (length field)))
    (cond (tight w field) (Ok (decode field, at + size field)) (Err (Loose at)))
    (Err (Damaged at))

-- A number's bytes put at a place: those before it stay, and "output past the used part is zero". Where they go past
-- the end the room is too small, refusal 8, and 8 fills "all output and work room with zeros".
unfoldable pub append_uvarint : List ℕ → ℕ → ℕ → AppendUvarint × List ℕ
append_uvarint out at x =
    cond (leb (at + length (encode x)) (length out))
    (Ok (at + length (encode x)), pad (length out) (take at out ++ encode x))
    (Err NoRoom, replicate (length out) 0)
