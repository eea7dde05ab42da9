-- No size that growing works out comes near the end of a number of the room. Assumes nothing.
use Prim.Native.Nat.{ℕ, zero, suc, ◌+◌, ◌-◌, ◌*◌, ◌≤◌, ◌<◌}
use mathlib.Core.Path.{◌≡◌, sym, ap, ◌∙◌}
use mathlib.Core.List.{List, [], ◌∷◌}
use native.Mathlib.Omega.{arith}
use native.Mathlib.Nat.{mul-le-mul_right}
use lib.ListN.{length, take, drop, length-append, take-append-drop}
use lib.Ieee.{Float}
use Rattle.boxes.specs.declared.Rect.{Rect}
use Rattle.boxes.specs.Quads.{quad_bounds}
use Rattle.tree.specs.Tree.{grown, packed}
use Rattle.tree.specs.All.{All}
use Rattle.tree.proofs.Lists.{all_map}
use Rattle.tree.proofs.Size.{Small, per_segment, packed_size}
use Rattle.tree_part.specs.declared.Shares.{Shares}
use Rattle.tree_part.specs.Part.{Readable}
use Rattle.tree_grow.specs.Inner.Growing.{crop_of, beside, sprout, share_of, crop_n, crop_from}
use Rattle.tree_grow.proofs.Own.{encode_ten}

-- what holds of each holds of each in a part
pub all_take : (P : ℕ → Type 0) (n : ℕ) (xs : List ℕ) → All P xs → All P (take n xs)
unfolding All
all_take P zero xs a = tt
all_take P (suc n) [] a = tt
all_take P (suc n) (x ∷ xs) a = (a.0, all_take P n xs a.1)

pub all_drop : (P : ℕ → Type 0) (n : ℕ) (xs : List ℕ) → All P xs → All P (drop n xs)
unfolding All
all_drop P zero xs a = a
all_drop P (suc n) [] a = tt
all_drop P (suc n) (x ∷ xs) a = all_drop P n xs a.1

pub small_all : (long : ℕ) (xs : List ℕ) → All (Readable long) xs → All Small xs
small_all long xs a = all_map (Readable long) Small xs (λ x r. omega (arith, r.1)) a

module _ (ring : ℕ → Float) (left : ℕ) (box : Rect) (deep : left ≤ 64) where
  -- the most bytes for a segment that arrives
  pub grown_size : (xs : List ℕ) → 0 < length xs → length xs ≤ 4096 → All Small xs → length (packed (grown ring left box xs)) ≤ 3285 * length xs
  grown_size xs h l a =
      let b : per_segment left ≤ 3285 = omega arith in
      let m = mul-le-mul_right (length xs) b in
      omega (arith, m, packed_size ring left box xs h a (omega (arith, m)))

  pub sprout_size : (xs : List ℕ) → length xs ≤ 4096 → All Small xs → length (packed (sprout ring left box xs)) ≤ 3285 * length xs
  unfolding sprout packed
  sprout_size [] l a = omega arith
  sprout_size (x ∷ xs) l a = grown_size (x ∷ xs) (omega arith) l a

module _ (ring : ℕ → Float) (left : ℕ) (box : Rect) (s : Shares) (deep : left ≤ 64) where
  crop_size : (n q : ℕ) (run : List ℕ) → length run ≤ 4096 → All Small run → (crop_n ring left box s n q run).size ≤ 10 * n + 3285 * length run
  unfolding crop_n beside crop_of
  crop_size zero q run l a = omega arith
  crop_size (suc n) q run l a =
      let m = share_of s q in
      let e : length (take m run) + length (drop m run) ≡ length run = sym (length-append (take m run) (drop m run)) ∙ ap length (take-append-drop m run) in
      let k = sprout_size ring left (quad_bounds box q) deep (take m run) (omega arith) (all_take Small m run a) in
      let r = crop_size n (q + 1) (drop m run) (omega arith) (all_drop Small m run a) in
      omega (arith, encode_ten (length (packed (sprout ring left (quad_bounds box q) (take m run)))) (omega arith))

  pub from_size : (q : ℕ) (run : List ℕ) → length run ≤ 4096 → All Small run → (crop_from ring left box s q run).size < 4294967296
  unfolding crop_from
  from_size q run l a = omega (arith, crop_size (4 - q) q run l a)
