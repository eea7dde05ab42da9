-- `raycast`: 01's eight steps, each beside its words. "`raycast` of whole-number ends a, b and any float p. Each operation rounds once by IEEE 754;
-- comparisons with NaN are false." Every operation and comparison is the library's (Rattle.std.specs.Float.Ieee). What is to be believed is `Raycast`, which leaves room for one answer
-- only (`raycast_unique` of proofs/Rest.antt); the end of the file computes that answer.
use Rattle.std.specs.Prelude.{◌≡◌, if◌then◌else◌, Bool, true, false, ◌&&◌, ◌||◌, ℕ, zero, suc, ℤ, Float}
use Rattle.std.specs.Float.{binary64}
use Rattle.std.specs.Float.Ieee.{le, lt, eq, ne, sub, div}
use Rattle.floats.specs.Next.{NextUp, next_up_of}
use Rattle.boxes.specs.declared.Point.{Point}
use Rattle.boxes.specs.declared.Segment.{Segment}
use Rattle.boxes.specs.Segments.{point_of}
use Rattle.rays.specs.declared.RaycastResult.{RaycastResult}
use Rattle.rays.specs.declared.RaycastResult.TheVariants.{On, Inside, Neither}

abbrev pub at : Float → Float → Point
at x y = record { x = x; y = y }

abbrev pub ends : ℤ → ℤ → ℤ → ℤ → Segment
ends ax ay bx by = record { a = record { x = ax; y = ay }; b = record { x = bx; y = by } }

-- v is below both ends, or above both
abbrev pub outside : Float → Float → Float → Bool
outside a b v = lt v a && lt v b || lt a v && lt b v

-- v is in the ends' closed range
abbrev pub within : Float → Float → Float → Bool
within a b v = le a v && le v b || le b v && le v a

-- (s - t) / (u - v)
abbrev pub quotient : Float → Float → Float → Float → Float
quotient s t u v = div binary64 (sub binary64 s t) (sub binary64 u v)

-- the slope from u to p is no less than that from u to v
abbrev pub steep : Point → Point → Point → Bool
steep u v p = le (quotient v.y u.y v.x u.x) (quotient p.y u.y p.x u.x)

-- Steps 1 to 4. `later` is what the steps after them say.
unfoldable pub first_steps : Point → Point → Point → RaycastResult → RaycastResult
first_steps a b p later =
    -- 1. Unequal end heights and p.y outside them: neither.
    if ne a.y b.y && outside a.y b.y p.y then Neither else
    -- 2. Equal heights: if a = b, on exactly when p = a, else neither.
    if eq a.y b.y && eq a.x b.x then (if eq p.x a.x && eq p.y a.y then On else Neither) else
    -- If p.y equals them and p.x is in the closed x range: on.
    if eq a.y b.y && eq p.y a.y && within a.x b.x p.x then On else
    -- 3. a.x = b.x = p.x and p.y in the closed y range: on.
    if eq a.x b.x && eq p.x a.x && within a.y b.y p.y then On else
    -- 4. (p.x-a.x)/(b.x-a.x) equals (p.y-a.y)/(b.y-a.y): on.
    if eq (quotient p.x a.x b.x a.x) (quotient p.y a.y b.y a.y) then On else
    later

-- 5. While p.y equals a.y or b.y, move it to the next float up.
abbrev pub at_end : Float → Float → Float → Bool
at_end a b y = eq y a || eq y b

-- From the height y the loop comes to rest at z, after so many moves. Each is one to the next float up, as IEEE 754 has it.
pub data Rests (a b : Float) : ℕ → Float → Float → Type 0 where
  rest : {y : Float} → at_end a b y ≡ false → Rests a b zero y y
  move : {n : ℕ} {y y' z : Float} → at_end a b y ≡ true → NextUp binary64 y y' → Rests a b n y' z → Rests a b (suc n) y z

-- Steps 6 to 8, with p.y as step 5 leaves it.
unfoldable pub last_steps : Point → Point → Point → RaycastResult
last_steps a b p =
    -- 6. If a.y < b.y, neither when p.y is below a.y or above b.y; otherwise neither when p.y is below b.y or above a.y.
    if (if lt a.y b.y then lt p.y a.y || lt b.y p.y else lt p.y b.y || lt a.y p.y) then Neither else
    -- 7. If a.x > b.x: p.x >= a.x neither, p.x <= b.x inside. Otherwise: p.x >= b.x neither, p.x <= a.x inside.
    if (if lt b.x a.x then le a.x p.x else le b.x p.x) then Neither else
    if (if lt b.x a.x then le p.x b.x else le p.x a.x) then Inside else
    -- 8. With a.y < b.y, inside if (p.y-a.y)/(p.x-a.x) >= (b.y-a.y)/(b.x-a.x); otherwise the same about b. Else neither.
    if (if lt a.y b.y then steep a b p else steep b a p) then Inside else
    Neither

-- The answer r: steps 1 to 4, step 5 until it rests, steps 6 to 8.
pub record Raycast (s : Segment) (p : Point) (r : RaycastResult) : Type 0 where
  pub moves : ℕ
  pub height : Float
  pub rests : Rests (point_of s.a).y (point_of s.b).y moves p.y height
  pub says : r ≡ first_steps (point_of s.a) (point_of s.b) p (last_steps (point_of s.a) (point_of s.b) (at p.x height))

-- ---- the computing form, for callers and worked cases: `answers` of proofs/Rest.antt shows that `raycast_of s p` is the answer of `Raycast s p`
-- Between whole-number ends step 5 rests after at most one move (`rests` there), so one test and one move stand for the loop.
abbrev pub lift : Float → Float → Float → Float
lift a b y = if at_end a b y then next_up_of y else y

abbrev pub cast_of : Point → Point → Point → RaycastResult
cast_of a b p = first_steps a b p (last_steps a b (at p.x (lift a.y b.y p.y)))

unfoldable pub raycast_of : Segment → Point → RaycastResult
raycast_of s p = cast_of (point_of s.a) (point_of s.b) p
