-- A ring is a list of numbers, two a point: x, then y. Its segments are numbered from 0; segment i goes from point i to point i + 1.
use Rattle.std.specs.Prelude.{ℕ, ◌+◌, ◌-◌, ◌*◌, Bool, true, ◌&&◌, ◌||◌, List, get_or, ℤ, pos, Float}
use Rattle.std.specs.Float.{binary64}
use Rattle.std.specs.Float.Ieee.{of_int, le}
use Rattle.boxes.specs.declared.Point.{Point}
use Rattle.boxes.specs.declared.Side.{Side}
use Rattle.boxes.specs.declared.I32Point.{I32Point}
use Rattle.boxes.specs.declared.Segment.{Segment}
use Rattle.room.specs.Numbers.{up_to}

abbrev pub point_at : List ℤ → ℕ → I32Point
point_at ring i = record { x = get_or ring (i * 2) (pos 0); y = get_or ring (i * 2 + 1) (pos 0) }

abbrev pub segment_at : List ℤ → ℕ → Segment
segment_at ring i = record { a = point_at ring i; b = record { x = get_or ring (i * 2 + 2) (pos 0); y = get_or ring (i * 2 + 3) (pos 0) } }

-- how many segments so many points make
abbrev pub segments : ℕ → ℕ
segments points = points - 1

-- the numbers below n, rising
abbrev pub numbers : ℕ → List ℕ
numbers n = up_to (λ i. true) n 0

-- ---- A ring as its numbers in floats, by place. Whatever lists, tests or indexes takes a ring so: the formulas are on floats, and speak of no kind
-- that the numbers are stored in.

-- the numbers of a stored ring: a float holds every i32
abbrev pub wide : List ℤ → ℕ → Float
wide zs k = of_int binary64 (get_or zs k (pos 0))

-- point i: `point_of (point_at ring i)` where the ring is stored
abbrev pub spot_at : (ℕ → Float) → ℕ → Point
spot_at ring i = record { x = ring (i * 2); y = ring (i * 2 + 1) }

-- segment i, from point i to point i + 1
abbrev pub side_at : (ℕ → Float) → ℕ → Side
side_at ring i = record { a = spot_at ring i; b = record { x = ring (i * 2 + 2); y = ring (i * 2 + 3) } }

-- the segment's closed height range holds y
abbrev pub holds_height : Side → Float → Bool
holds_height s y = le s.a.y y && le y s.b.y || le s.b.y y && le y s.a.y

-- the numbers of the ring's segments whose own closed height range holds y, by rising number
unfoldable pub meeting : (ℕ → Float) → ℕ → Float → List ℕ
meeting ring points y = up_to (λ i. holds_height (side_at ring i) y) (segments points) 0
