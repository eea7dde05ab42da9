-- The record of an outline: the box of each ring in whole numbers, and how it is read.
use Rattle.std.specs.Prelude.{ℕ, zero, suc, ◌+◌, ◌-◌, ◌*◌, List, [], ◌∷◌, ◌++◌, Bool, cond, ◌&&◌, get_or, ℤ, pos}
use Rattle.std.specs.Int.Signed.{lt_z, le_z}
use Rattle.std.specs.Float.{binary64}
use Rattle.std.specs.Float.Ieee.{of_int}
use Rattle.boxes.specs.declared.Rect.{Rect}
use Rattle.boxes.specs.Quads.{box}
use Rattle.rings.specs.Ring.{point_at}
use Rattle.outline_check.specs.Outline.{rings, size_at, ring_of}

abbrev pub lesser_z : ℤ → ℤ → ℤ
lesser_z x y = cond (lt_z x y) x y

abbrev pub greater_z : ℤ → ℤ → ℤ
greater_z x y = cond (lt_z x y) y x

-- the least and the greatest of f 0 .. f n
unfoldable pub least_z : (ℕ → ℤ) → ℕ → ℤ
least_z f zero = f 0
least_z f (suc n) = lesser_z (least_z f n) (f (suc n))

unfoldable pub greatest_z : (ℕ → ℤ) → ℕ → ℤ
greatest_z f zero = f 0
greatest_z f (suc n) = greater_z (greatest_z f n) (f (suc n))

-- what picking one of two gives over f 0 .. f n: `least_z` picks the lesser each time, `greatest_z` the greater
unfoldable pub picked_z : (ℤ → ℤ → ℤ) → (ℕ → ℤ) → ℕ → ℤ
picked_z pick f zero = f 0
picked_z pick f (suc n) = pick (picked_z pick f n) (f (suc n))

-- a ring's box: least x, least y, greatest x, greatest y of its points
unfoldable pub box_numbers : List ℤ → ℕ → List ℤ
box_numbers ring points =
    let last = points - 1 in
    least_z (λ i. (point_at ring i).x) last ∷ least_z (λ i. (point_at ring i).y) last
    ∷ greatest_z (λ i. (point_at ring i).x) last ∷ greatest_z (λ i. (point_at ring i).y) last ∷ []

-- the boxes of the first k rings, in ring order
unfoldable pub boxes_to : List ℕ → List ℤ → ℕ → List ℤ
boxes_to sizes coords zero = []
boxes_to sizes coords (suc k) = boxes_to sizes coords k ++ box_numbers (ring_of sizes coords k) (size_at sizes k)

abbrev pub boxes_of : List ℕ → List ℤ → List ℤ
boxes_of sizes coords = boxes_to sizes coords (rings sizes)

-- Number i of a record as it stands. One that is missing counts as 0.
abbrev pub number_at : List ℤ → ℕ → ℤ
number_at boxes i = get_or boxes i (pos 0)

-- ring k's box as it stands in a record, as floats, which hold every i32
abbrev pub rect_at : List ℤ → ℕ → Rect
rect_at boxes k =
    box (of_int binary64 (number_at boxes (4 * k))) (of_int binary64 (number_at boxes (4 * k + 1)))
    (of_int binary64 (number_at boxes (4 * k + 2))) (of_int binary64 (number_at boxes (4 * k + 3)))

-- the same box, closed, holds the whole place (x, y)
abbrev pub grid_box_holds : List ℤ → ℕ → ℤ → ℤ → Bool
grid_box_holds boxes k x y =
    le_z (number_at boxes (4 * k)) x && le_z x (number_at boxes (4 * k + 2)) && le_z (number_at boxes (4 * k + 1)) y
    && le_z y (number_at boxes (4 * k + 3))

-- "1 to 64 rings, exterior first": all but the first are holes
abbrev pub holes : List ℕ → ℕ
holes sizes = rings sizes - 1
