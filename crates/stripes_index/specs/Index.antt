-- 01, "Stripes": what an index of a ring holds. A ring is its numbers, x then y for each point.
use Rattle.std.specs.Prelude.{Bool, ◌&&◌, List, [], ◌∷◌, ℕ, zero, suc, max, length, leb, Float}
use Rattle.std.specs.Float.{binary64}
use Rattle.std.specs.Float.Ieee.{sub}
use Rattle.floats.specs.Values.{lesser_of, greater_of}
use Rattle.room.specs.Numbers.{up_to}
use Rattle.rings.specs.Ring.{spot_at, side_at}
use Rattle.stripes_place.specs.Stripe.{stripe_of}
use Rattle.stripes_index.specs.Joined.{joined}

-- the low and the high end of segment i
abbrev pub low_end : (ℕ → Float) → ℕ → Float
low_end ring i = lesser_of (side_at ring i).a.y (side_at ring i).b.y

abbrev pub high_end : (ℕ → Float) → ℕ → Float
high_end ring i = greater_of (side_at ring i).a.y (side_at ring i).b.y

-- "Least y and height come from the segments": the least low end and the greatest high end of the first n, from the first point's height on
unfoldable pub least_y : (ℕ → Float) → ℕ → Float
least_y ring zero = (spot_at ring 0).y
least_y ring (suc k) = lesser_of (least_y ring k) (low_end ring k)

unfoldable pub greatest_y : (ℕ → Float) → ℕ → Float
greatest_y ring zero = (spot_at ring 0).y
greatest_y ring (suc k) = greater_of (greatest_y ring k) (high_end ring k)

abbrev pub height_y : (ℕ → Float) → ℕ → Float
height_y ring n = sub binary64 (greatest_y ring n) (least_y ring n)

-- "A segment is entered in every stripe from that of its low end to that of its high end":
-- which stripe, of so many from `least` up, each segment is entered in
module _ (ring : ℕ → Float) (least height : Float) (stripes : ℕ) where
  abbrev pub first_stripe : ℕ → ℕ
  first_stripe i = stripe_of (low_end ring i) least height stripes

  abbrev pub last_stripe : ℕ → ℕ
  last_stripe i = stripe_of (high_end ring i) least height stripes

  abbrev pub crosses : ℕ → ℕ → Bool
  crosses stripe i = leb (first_stripe i) stripe && leb stripe (last_stripe i)

-- the index of n segments, by which stripe each crosses
module _ (cross : ℕ → ℕ → Bool) (n : ℕ) where
  -- the numbers entered in a stripe, "by rising number"
  abbrev pub part_of : ℕ → List ℕ
  part_of stripe = up_to (cross stripe) n 0

  -- the list: the parts of so many stripes, one after the other
  abbrev pub list_of : ℕ → List ℕ
  list_of stripes = joined part_of stripes

  -- the stripes: where each one's part starts in the list, and how many numbers it has
  abbrev pub table_of : ℕ → List ℕ
  table_of stripes = joined (λ s. length (list_of s) ∷ length (part_of s) ∷ []) stripes

  -- statistics: entries in all, and in the fullest stripe
  abbrev pub entries_of : ℕ → ℕ
  entries_of stripes = length (list_of stripes)

  unfoldable pub fullest_of : ℕ → ℕ
  fullest_of zero = 0
  fullest_of (suc s) = max (fullest_of s) (length (part_of s))
