-- The size of a node's own segments, one by one. Assumes nothing.
use Prim.Native.Nat.{ℕ, ◌+◌, ◌-◌, ◌^◌, ◌≤◌, ◌<◌}
use mathlib.Core.Path.{◌≡◌, refl}
use mathlib.Core.List.{List, [], ◌∷◌}
use native.Mathlib.Omega.{arith}
use native.Mathlib.Numerals.{add-one}
use lib.ListN.{length, get_or, drop, length-append, length-drop}
use lib.Seq.{drop-cons}
use lib.Dec.{lit<}
use Rattle.varint.specs.Leb128.{encode}
use Rattle.varint.proofs.Leb128.{encode_width}
use Rattle.tree.specs.Tree.{differences, own_bytes}

pub encode_ten : (x : ℕ) → x < 2 ^ 64 → length (encode x) ≤ 10
encode_ten x h = encode_width 64 x (lit< tt) h

module _ (xs : List ℕ) where
  pub own_start : length (encode (length xs)) + length (differences 0 (drop 0 xs)) ≡ length (own_bytes xs)
  unfolding own_bytes
  own_start = simp length-append

  pub own_more : (last i : ℕ) → i < length xs
      → length (differences last (drop i xs)) ≡ length (encode (get_or xs i 0 - last)) + length (differences (get_or xs i 0) (drop (i + 1) xs))
  unfolding differences
  own_more last i h = rw (add-one, drop-cons xs i 0 h, length-append)

  pub own_done : (last i : ℕ) → length xs ≤ i → length (differences last (drop i xs)) ≡ 0
  unfolding differences
  own_done last i h = none (drop i xs) (omega (arith, length-drop i xs))
    where
      none : (ys : List ℕ) → length ys ≡ 0 → length (differences last ys) ≡ 0
      none [] e = refl
      none (y ∷ ys) e = absurd (omega arith)
