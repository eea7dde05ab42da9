-- The least and the greatest height are picked alike. Assumes nothing.
use Rattle.std.proofs.Common.{◌≡◌, refl, ap, ℕ, zero, suc, Float}
use Rattle.floats.specs.Values.{lesser_of, greater_of}
use Rattle.stripes_index.specs.Index.{low_end, high_end, least_y, greatest_y}
use Rattle.stripes_index.specs.Inner.States.{picked}

pub least_picked : (ring : ℕ → Float) (n : ℕ) → picked lesser_of ring n ≡ least_y ring n
unfolding picked least_y
least_picked ring zero = refl
least_picked ring (suc k) = ap (λ (y : Float). lesser_of y (low_end ring k)) (least_picked ring k)

pub greatest_picked : (ring : ℕ → Float) (n : ℕ) → picked greater_of ring n ≡ greatest_y ring n
unfolding picked greatest_y
greatest_picked ring zero = refl
greatest_picked ring (suc k) = ap (λ (y : Float). greater_of y (high_end ring k)) (greatest_picked ring k)
