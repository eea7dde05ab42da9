-- How long a tree's bytes can be, and how many nodes it can have: so many for each level and segment. Assumes nothing.
use Prim.Native.Nat.{ℕ, zero, suc, ◌+◌, ◌-◌, ◌*◌, ◌^◌, ◌≤◌, ◌<◌}
use mathlib.Core.Path.{◌≡◌, ap}
use mathlib.Core.List.{List, [], ◌∷◌}
use native.Mathlib.Omega.{arith}
use native.Mathlib.Nat.{mul-le-mul_left, mul-le-mul_right}
use lib.ListN.{length, length-append}
use lib.Ieee.{Float}
use Rattle.boxes.specs.declared.Rect.{Rect}
use Rattle.boxes.specs.Quads.{quad_bounds}
use Rattle.varint.specs.Leb128.{encode}
use Rattle.varint.proofs.Leb128.{encode_width}
use Rattle.tree.specs.Tree.{Tree, leaf, split, goes_to, choice, stayers, goers, unless_empty, grown, differences, own_bytes, sized, packed}
use Rattle.tree.specs.All.{All}
use Rattle.tree.proofs.Lists.{all_kept, those_length}
use Rattle.tree.proofs.Share.{kid_of, grown_cases, length_shares}

-- a number that the varints hold
abbrev pub Small : ℕ → Type 0
Small n = n < 2 ^ 64

encode_ten : (x : ℕ) → Small x → length (encode x) ≤ 10
encode_ten x s = encode_width 64 x (omega arith) s

differences_size : (last : ℕ) (xs : List ℕ) → All Small xs → length (differences last xs) ≤ 10 * length xs
unfolding All differences
differences_size last [] a = omega arith
differences_size last (x ∷ xs) a =
    simp length-append (omega (arith, encode_ten (x - last) (omega (arith, a.0)), differences_size x xs a.1))

own_size_lem : (xs : List ℕ) → Small (length xs) → All Small xs → length (own_bytes xs) ≤ 10 + 10 * length xs
unfolding own_bytes
own_size_lem xs s a = simp length-append (omega (arith, encode_ten (length xs) s, differences_size 0 xs a))

sized_size : (bs : List ℕ) → Small (length bs) → length (sized bs) ≤ 10 + length bs
unfolding sized
sized_size bs s = simp length-append (omega (arith, encode_ten (length bs) s))

-- the most bytes for one segment that arrives with this many levels below
abbrev pub per_segment : ℕ → ℕ
per_segment left = 21 + 51 * left

leaf_size : (xs : List ℕ) → 0 < length xs → Small (length xs) → All Small xs → length (packed (leaf xs)) ≤ 21 * length xs
unfolding packed
leaf_size xs h s a = let o = own_size_lem xs s a in rw length-append (omega arith)

pub split_size : (xs : List ℕ) (f : ℕ → Tree)
    → length (packed (split xs f)) ≡ length (own_bytes xs) + (1 + (length (sized (packed (f 0))) + (length (sized (packed (f 1))) + (length (sized (packed (f 2))) + length (sized (packed (f 3)))))))
unfolding packed
split_size xs f = simp length-append (omega arith)

-- what the kids of a node take, if each takes at most k for a segment
kids_size : (k : ℕ) (ring : ℕ → Float) (box : Rect) (xs : List ℕ) (f : ℕ → Tree) → 10 ≤ k → 0 < length xs → All Small xs → Small ((k + 51) * length xs)
    → ((q : ℕ) → length (packed (f q)) ≤ k * length (goers ring box q xs))
    → length (packed (split (stayers ring box xs) f)) ≤ (k + 51) * length xs
kids_size k ring box xs f t h a s b =
    let t' = mul-le-mul_right (length (stayers ring box xs)) t in
    let e = length_shares ring box xs in
    let e' = ap (λ (z : ℕ). k * z) e in
    let o = own_size_lem (stayers ring box xs) (omega arith) (all_kept Small _ xs a) in
    let z0 = kid 0 in
    let z1 = kid 1 in
    let z2 = kid 2 in
    let z3 = kid 3 in
    rw (split_size (stayers ring box xs) f) (omega arith)
  where
    kid : (q : ℕ) → length (sized (packed (f q))) ≤ 10 + k * length (goers ring box q xs)
    kid q =
        let m = mul-le-mul_left k (those_length (λ i. goes_to q (choice ring box i)) xs) in
        let l = b q in
        omega (arith, sized_size (packed (f q)) (omega arith))

kid_size : (k : ℕ) (ys : List ℕ) (t : Tree) → (0 < length ys → length (packed t) ≤ k * length ys) → length (packed (unless_empty ys t)) ≤ k * length ys
unfolding packed
kid_size k [] t h = omega arith
kid_size k (y ∷ ys) t h = h (omega arith)

pub packed_size : (ring : ℕ → Float) (left : ℕ) (box : Rect) (xs : List ℕ) → 0 < length xs → All Small xs → Small (per_segment left * length xs)
    → length (packed (grown ring left box xs)) ≤ per_segment left * length xs
unfolding grown
packed_size ring zero box xs h a s = let l = leaf_size xs h (omega arith) a in omega arith
packed_size ring (suc left) box xs h a s =
    let e : per_segment left + 51 ≡ per_segment (suc left) = omega arith in
    grown_cases (λ t. length (packed t) ≤ per_segment (suc left) * length xs) ring left box xs
    (let l = leaf_size xs h (omega arith) a in omega arith)
    (λ m. rw e at (kids_size (per_segment left) ring box xs (kid_of ring left box xs) (omega arith) h a (rw e s)
    (λ q. kid_size (per_segment left) (goers ring box q xs) (grown ring left (quad_bounds box q) (goers ring box q xs))
    (λ p. packed_size ring left (quad_bounds box q) (goers ring box q xs) p (all_kept Small (λ i. goes_to q (choice ring box i)) xs a)
    (let m = mul-le-mul_left (per_segment left) (those_length (λ i. goes_to q (choice ring box i)) xs) in omega arith)))))
