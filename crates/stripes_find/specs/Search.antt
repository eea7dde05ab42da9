-- 01, "Stripes": what a search finds in a lent index, whoever wrote it. The index is its least y and height, the stripes, two numbers each: where
-- the stripe's part of the list starts, and how many numbers it has, and the list.
use Rattle.std.specs.Prelude.{Bool, cond, ◌||◌, List, [], ◌∷◌, ℕ, ◌+◌, ◌*◌, ◌/◌, length, get_or, ltb, eqb, Float}
use Rattle.std.proofs.Math.Seq.{slice}
use Rattle.std.specs.Float.{binary64}
use Rattle.std.specs.Float.Ieee.{eq, ne, lt, add, of_bits}
use Rattle.room.specs.Numbers.{cons_if}
use Rattle.rings.specs.Ring.{side_at, holds_height}
use Rattle.stripes_place.specs.Stripe.{stripe_of}

-- "Searching gives nothing when y is outside least to least+height, or, at height 0, when y differs from least." Comparisons with a NaN are
-- false, but that it differs is true.
abbrev pub outside : Float → Float → Float → Bool
outside y least height = cond (eq height (of_bits binary64 0)) (ne y least) (lt y least || lt (add binary64 least height) y)

-- how a reading ends: with the numbers, or at damage, which has a place
pub data Ending : Type 0 where
  complete : Ending
  damaged_at : ℕ → Ending

-- the numbers found, and how the reading ends
pub record Reading : Type 0 where
  pub found : List ℕ
  pub ending : Ending

-- "Listed segments are tested against their own y range": of the listed numbers those that meet the test, up to the first that is no segment's
unfoldable pub found_in : ℕ → (ℕ → Bool) → List ℕ → List ℕ
found_in n meets [] = []
found_in n meets (x ∷ xs) = cond (ltb x n) (cons_if (meets x) x (found_in n meets xs)) []

-- Damage: "a number not below the segment count (place its position)". The first number listed stands at `at`.
unfoldable pub end_in : ℕ → ℕ → List ℕ → Ending
end_in n at [] = complete
end_in n at (x ∷ xs) = cond (ltb x n) (end_in n (at + 1) xs) (damaged_at at)

-- "Damage: no stripes (place 0), a stripe's part past the list (place the list's length)". A last number without a second makes no stripe.
unfoldable pub read_stripe : ℕ → (ℕ → Bool) → Float → Float → List ℕ → List ℕ → Float → Reading
read_stripe n meets least height stripes list y =
    let s = stripe_of y least height (length stripes / 2) in
    let start = get_or stripes (s * 2) 0 in
    let count = get_or stripes (s * 2 + 1) 0 in
    let part = slice start (start + count) list in
    cond (eqb (length stripes / 2) 0)
    (record { found = []; ending = damaged_at 0 })
    (cond (ltb (length list) (start + count))
    (record { found = []; ending = damaged_at (length list) })
    (record { found = found_in n meets part; ending = end_in n start part }))

-- In a ring with n segments: nothing is found outside of the ring's heights, "before any damage is looked for". Whether y is outside is given: that is
-- for the index to say, by what it keeps of the heights.
unfoldable pub searched_by : Bool → (ℕ → Float) → ℕ → Float → Float → List ℕ → List ℕ → Float → Reading
searched_by out ring n least height stripes list y =
    cond out
    (record { found = []; ending = complete })
    (read_stripe n (λ i. holds_height (side_at ring i) y) least height stripes list y)

-- an index keeps the least y and the height
abbrev pub searched : (ℕ → Float) → ℕ → Float → Float → List ℕ → List ℕ → Float → Reading
searched ring n least height stripes list y = searched_by (outside y least height) ring n least height stripes list y
