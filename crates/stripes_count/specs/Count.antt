-- 01, "Stripes": how many stripes a ring calls for. Each operation rounds once, in the order written.
-- A ring is its numbers as floats, by place, x then y for each point; its segment i goes from point i to point i + 1. No kind that they are stored in
-- is spoken of.
use Rattle.std.specs.Prelude.{ℕ, zero, suc, ◌+◌, ◌*◌, max, cond, pos, from_bits, Float}
use Rattle.std.specs.Float.{binary64}
use Rattle.std.specs.Float.Ieee.{eq, add, sub, mul, div, of_int}
use Rattle.floats.specs.Values.{abs_of}
use Rattle.root.specs.Computed.{sqrt_of}
use Rattle.whole.specs.Floor.{floor_within}
use Rattle.stripes_count.specs.declared.Ends.{Ends}

-- the ends of segment i
abbrev pub ends_at_of : (ℕ → Float) → ℕ → Ends
ends_at_of ring i = record { ax = ring (i * 2); ay = ring (i * 2 + 1); bx = ring (i * 2 + 2); by = ring (i * 2 + 3) }

-- a.x*b.y - b.x*a.y
abbrev pub cross_of : Ends → Float
cross_of s = sub binary64 (mul binary64 s.ax s.by) (mul binary64 s.bx s.ay)

-- the square root of dx*dx + dy*dy
abbrev pub length_of : Ends → Float
length_of s =
    let dx = sub binary64 s.bx s.ax in
    let dy = sub binary64 s.by s.ay in
    sqrt_of binary64 (add binary64 (mul binary64 dx dx) (mul binary64 dy dy))

-- the sum over the first n, in order, from 0
unfoldable pub sum_to : (ℕ → Float) → ℕ → Float
sum_to term zero = from_bits binary64 0
sum_to term (suc k) = add binary64 (sum_to term k) (term k)

-- "Area: sum a.x*b.y - b.x*a.y in order, absolute, times 0.5."
abbrev pub area_of : (ℕ → Float) → ℕ → Float
area_of ring n = mul binary64 (abs_of (sum_to (λ i. cross_of (ends_at_of ring i)) n)) (from_bits binary64 0x3fe0_0000_0000_0000)

-- "Perimeter: sum of square roots of dx*dx + dy*dy."
abbrev pub perimeter_of : (ℕ → Float) → ℕ → Float
perimeter_of ring n = sum_to (λ i. length_of (ends_at_of ring i)) n

-- "score = (area * PI * 4)/(perimeter * perimeter), 0 if perimeter is 0; PI has bits 400921FB54442D18."
abbrev pub score_of : Float → Float → Float
score_of area perimeter =
    cond (eq perimeter (from_bits binary64 0))
    (from_bits binary64 0)
    (div binary64 (mul binary64 (mul binary64 area (from_bits binary64 0x4009_21fb_5444_2d18)) (from_bits binary64 0x4010_0000_0000_0000)) (mul binary64 perimeter perimeter))

-- "Stripe count: the greater of 32 and floor(n * score)", of a ring with n segments. The floor is held to what 64 bits count, which is
-- over 65,536 and so refused.
unfoldable pub stripe_count : (ℕ → Float) → ℕ → ℕ
stripe_count ring n = max 32 (floor_within 0xffff_ffff_ffff_ffff (mul binary64 (of_int binary64 (pos n)) (score_of (area_of ring n) (perimeter_of ring n))))
