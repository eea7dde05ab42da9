-- How the area is summed: over coordinates raised by 2^31, which are not below 0, and in two halves of 32 bits, so that no sum wraps.
-- For functions of this crate alone; proofs/Area.antt ties it to the doubled area.
use Rattle.std.specs.Prelude.{ℕ, ◌+◌, ◌*◌, ◌^◌, ℤ, pos, ◌+ℤ◌, ◌*ℤ◌}
use Rattle.boxes.specs.declared.Segment.{Segment}
use Rattle.turn.specs.declared.Halves.{Halves}

abbrev pub raised : ℤ → ℤ
raised z = z +ℤ pos (2 ^ 31)

-- the two products of a segment's part, ax by and bx ay, of raised coordinates
abbrev pub plus_of : Segment → ℤ
plus_of s = raised s.a.x *ℤ raised s.b.y

abbrev pub minus_of : Segment → ℤ
minus_of s = raised s.b.x *ℤ raised s.a.y

-- the number that two halves stand for
abbrev pub value_of : Halves → ℕ
value_of h = h.high * 2 ^ 32 + h.low
