-- Laws of a loop that turns each number of a run. Assumes nothing.
use Prim.Native.Nat.{ℕ, suc, ◌+◌, ◌<◌}
use mathlib.Core.Path.{◌≡◌}
use mathlib.Core.List.{List, ◌++◌, map, append_assoc}
use native.Mathlib.Omega.{arith}
use native.Mathlib.Numerals.{add-one}
use lib.ListN.{length, get_or, take, drop, set}
use lib.Seq.{drop-cons, take-suc-set, drop-set-lt}
use Rattle.tree.specs.All.{All}

module _ (f : ℕ → ℕ) where
  -- what becomes of a run of which the first i numbers are turned
  abbrev pub turned_from : ℕ → List ℕ → List ℕ
  turned_from i m = take i m ++ map f (drop i m)

  pub turned_next : (m : List ℕ) (i v : ℕ) → i < length m → v ≡ f (get_or m i 0) → turned_from i m ≡ turned_from (i + 1) (set m i v)
  turned_next m i v h e =
      rw (add-one i, take-suc-set m i v h, drop-set-lt (suc i) m i v (omega arith), drop-cons m i 0 h, e, append_assoc)

-- what holds of each number that is still to be turned
module _ (P : ℕ → Type 0) (m : List ℕ) (i : ℕ) (h : i < length m) (a : All P (drop i m)) where
  pub all_here : P (get_or m i 0)
  unfolding All
  all_here = (rw (drop-cons m i 0 h) at a).0

  pub all_next : (v : ℕ) → All P (drop (i + 1) (set m i v))
  unfolding All
  all_next v = rw (add-one i, drop-set-lt (suc i) m i v (omega arith)) (rw (drop-cons m i 0 h) at a).1
