-- "Quadrants: 0 north-west, 1 north-east, 2 south-west, 3 south-east; the middle is (min+max)/2 rounded. West means max.x < middle, east means
-- min.x >= middle; south and north likewise. A segment that is neither stays."
use Rattle.std.specs.Prelude.{Option, Some, None}
use Rattle.std.specs.Prelude.{Bool, true, false, not, ℕ, zero, suc, Float}
use Rattle.std.specs.Float.{binary64}
use Rattle.std.specs.Float.Ieee.{of_bits, add, div, lt, le}
use Rattle.boxes.specs.declared.Rect.{Rect}

-- (min + max) / 2: one rounded sum, one rounded quotient by 2.0
abbrev pub middle : Float → Float → Float
middle low high = div binary64 (add binary64 low high) (of_bits binary64 0x4000_0000_0000_0000)

-- the middle of a box
abbrev pub mid_x : Rect → Float
mid_x b = middle b.min.x b.max.x

abbrev pub mid_y : Rect → Float
mid_y b = middle b.min.y b.max.y

-- the quadrant of a box that is west, east, south, north of the middle; what is neither west nor east, or neither south nor north, stays
abbrev pub quadrant : Bool → Bool → Bool → Bool → Option ℕ
quadrant true e true n = Some 2
quadrant true e false true = Some 0
quadrant true e false false = None
quadrant false true true n = Some 3
quadrant false true false true = Some 1
quadrant false true false false = None
quadrant false false s n = None

-- the words above as they stand, for a box b and a segment's box r
abbrev pub chosen_of_numbers : Rect → Rect → Option ℕ
chosen_of_numbers b r = quadrant (lt r.max.x (mid_x b)) (le (mid_x b) r.min.x) (lt r.max.y (mid_y b)) (le (mid_y b) r.min.y)

-- For any floats, as the source has it: east is what is left when neither max.x nor min.x is below the middle, and north likewise.
-- Where no NaN is met the two are one (proofs/Quads.antt).
abbrev pub chosen : Rect → Rect → Option ℕ
chosen b r = quadrant (lt r.max.x (mid_x b)) (not (lt r.min.x (mid_x b))) (lt r.max.y (mid_y b)) (not (lt r.min.y (mid_y b)))

-- the box from (x₀, y₀) to (x₁, y₁)
abbrev pub box : Float → Float → Float → Float → Rect
box x₀ y₀ x₁ y₁ = record { min = record { x = x₀; y = y₀ }; max = record { x = x₁; y = y₁ } }

-- the box of a quadrant; any other number gives the box back
abbrev pub quad_bounds : Rect → ℕ → Rect
quad_bounds b zero = box b.min.x (mid_y b) (mid_x b) b.max.y
quad_bounds b (suc zero) = box (mid_x b) (mid_y b) b.max.x b.max.y
quad_bounds b (suc (suc zero)) = box b.min.x b.min.y (mid_x b) (mid_y b)
quad_bounds b (suc (suc (suc zero))) = box (mid_x b) b.min.y b.max.x (mid_y b)
quad_bounds b (suc (suc (suc (suc q)))) = b
