-- Worked cases of the definition, by computing. Assumes nothing.
use mathlib.Core.Path.{◌≡◌, refl}
use mathlib.Core.Bool.{true, false}
use mathlib.Core.List.{List, [], ◌∷◌}
use lib.IntN.{ℤ, pos, negsuc}
use lib.Ieee.{nan, inf, fin, binary64, of_int, of_bits, to_bits, sub, div, lt, le, eq, ne, is_nan}
use Rattle.floats.specs.Next.{next_up_of}
use Rattle.boxes.specs.declared.Point.{Point}
use Rattle.boxes.specs.declared.Segment.{Segment}
use Rattle.rays.specs.declared.RaycastResult.{RaycastResult}
use Rattle.rays.specs.declared.RaycastResult.TheVariants.{On, Inside, Neither}
use Rattle.rays.specs.Raycast.{at, first_steps, last_steps, raycast_of}

abbrev segment : ℤ → ℤ → ℤ → ℤ → Segment
segment ax ay bx by = record { a = record { x = ax; y = ay }; b = record { x = bx; y = by } }

abbrev whole : ℤ → ℤ → Point
whole x y = at (of_int binary64 x) (of_int binary64 y)

-- the four sides of 01's square S
abbrev sides : Point → List RaycastResult
sides p =
    raycast_of (segment (pos 0) (pos 0) (pos 10) (pos 0)) p
    ∷ raycast_of (segment (pos 10) (pos 0) (pos 10) (pos 10)) p
    ∷ raycast_of (segment (pos 10) (pos 10) (pos 0) (pos 10)) p
    ∷ raycast_of (segment (pos 0) (pos 10) (pos 0) (pos 0)) p
    ∷ []

-- S holds (5,5): one flip
in_S : sides (whole (pos 5) (pos 5)) ≡ Neither ∷ Inside ∷ Neither ∷ Neither ∷ []
unfolding raycast_of first_steps last_steps next_up_of of_int of_bits to_bits sub div lt le eq ne is_nan
in_S = refl

-- (11,5) is out: none
out_of_S : sides (whole (pos 11) (pos 5)) ≡ Neither ∷ Neither ∷ Neither ∷ Neither ∷ []
unfolding raycast_of first_steps last_steps next_up_of of_int of_bits to_bits sub div lt le eq ne is_nan
out_of_S = refl

-- (0,5) is on the last side
on_S : sides (whole (pos 0) (pos 5)) ≡ Neither ∷ Inside ∷ Neither ∷ On ∷ []
unfolding raycast_of first_steps last_steps next_up_of of_int of_bits to_bits sub div lt le eq ne is_nan
on_S = refl

-- left of S at the height of a corner: step 5 moves up, so each of the two upright sides counts once
corner_of_S : sides (whole (negsuc 0) (pos 0)) ≡ Neither ∷ Inside ∷ Neither ∷ Inside ∷ []
unfolding raycast_of first_steps last_steps next_up_of of_int of_bits to_bits sub div lt le eq ne is_nan
corner_of_S = refl

-- a NaN is neither below nor above: steps 1 and 6 let it pass
nan_height : raycast_of (segment (pos 0) (pos 0) (pos 0) (pos 1)) (at (of_int binary64 (negsuc 0)) nan) ≡ Inside
unfolding raycast_of first_steps last_steps next_up_of of_int of_bits to_bits sub div lt le eq ne is_nan
nan_height = refl

-- step 4 finds equal quotients beyond the segment: two infinities, and two zeros by underflow
far_on : raycast_of (segment (pos 0) (pos 0) (pos 1) (pos 0)) (at (inf false) (of_int binary64 (pos 1))) ≡ On
unfolding raycast_of first_steps last_steps next_up_of of_int of_bits to_bits sub div lt le eq ne is_nan
far_on = refl

small_on : raycast_of (segment (pos 0) (pos 0) (pos 2) (pos 1)) (at (fin true 1 (negsuc 1073)) (of_int binary64 (pos 0))) ≡ On
unfolding raycast_of first_steps last_steps next_up_of of_int of_bits to_bits sub div lt le eq ne is_nan
small_on = refl
