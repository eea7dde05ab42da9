-- What the lent room holds between the turns of the loops that fill it: the inner functions' contracts cite these.
use Rattle.std.specs.Prelude.{Bool, List, [], ◌∷◌, ℕ, zero, suc, ◌+◌, ◌-◌, ◌*◌, ◌/◌, max, length, get_or, Float}
use Rattle.room.specs.Room.{pad}
use Rattle.rings.specs.Ring.{spot_at, side_at}
use Rattle.stripes_index.specs.Joined.{joined}
use Rattle.stripes_index.specs.Index.{part_of, list_of}

-- how many segments so many numbers make, two a point
abbrev pub held : ℕ → ℕ
held long = long / 2 - 1

-- of the heights that the first n segments reach, from the first point's on, the one that is better than those before it
unfoldable pub picked : (Float → Float → Float) → (ℕ → Float) → ℕ → Float
picked better ring zero = (spot_at ring 0).y
picked better ring (suc k) = better (picked better ring k) (better (side_at ring k).a.y (side_at ring k).b.y)

-- two numbers a stripe
abbrev pub pairs : (ℕ → ℕ) → (ℕ → ℕ) → ℕ → List ℕ
pairs a b m = joined (λ s. a s ∷ b s ∷ []) m

abbrev pub none : ℕ → ℕ
none s = 0

-- the second number of stripe s
abbrev pub second_at : List ℕ → ℕ → ℕ
second_at table s = get_or table (s * 2 + 1) 0

-- the sum and the greatest of c 0 up to c (m - 1)
unfoldable pub sum_to : (ℕ → ℕ) → ℕ → ℕ
sum_to c zero = 0
sum_to c (suc m) = sum_to c m + c m

unfoldable pub most_to : (ℕ → ℕ) → ℕ → ℕ
most_to c zero = 0
most_to c (suc m) = max (most_to c m) (c m)

module _ (cross : ℕ → ℕ → Bool) (m : ℕ) where
  -- how many of the first i segments each stripe has
  abbrev pub counts_at : ℕ → List ℕ
  counts_at i = pairs none (λ s. length (part_of cross i s)) m

  -- of n segments the first i are entered: the stripes' starts, with the counts so far
  abbrev pub table_at : ℕ → ℕ → List ℕ
  table_at n i = pairs (λ s. length (list_of cross n s)) (λ s. length (part_of cross i s)) m

  -- and the list: each part's numbers so far, and zeros for those to come
  abbrev pub list_at_of : ℕ → ℕ → List ℕ
  list_at_of n i = joined (λ s. pad (length (part_of cross n s)) (part_of cross i s)) m
