-- 01's sample sheet, of the tree. S is the square (0,0) (10,0) (10,10) (0,10) (0,0).
use Prim.Native.Nat.{ℕ, suc, ◌≤◌, ◌<◌}
use mathlib.Core.Path.{◌≡◌, refl}
use mathlib.Core.List.{List, [], ◌∷◌}
use native.Mathlib.Omega.{arith}
use lib.ListN.{length}
use lib.IntN.{ℤ, pos, negsuc}
use lib.Ieee.{Float, binary64, of_int, round, odd, units, size, span, climb, lt, le, ne}
use borrow.Author.Tests.{le-leb, lt-leb}
use Rattle.answers.specs.declared.Refusal.TheVariants.{Loose}
use Rattle.floats.specs.Values as values
use Rattle.boxes.specs.declared.Rect.{Rect}
use Rattle.room.specs.Numbers.{keep, up_to}
use Rattle.varint.specs.Leb128.{encode, encode_in, decode, size as bytes_of}
use Rattle.varint.specs.Uvarint.{read_uvarint}
use Rattle.rings.specs.Ring.{wide}
use Rattle.tree.specs.Tree.{max_items, empty, leaf, split, stayers, grown, least, greatest, ring_box, tree_of, differences, own_bytes, packed}
use Rattle.tree.proofs.Share.{kid_of}
use Rattle.tree.specs.Reads.{own_reads, head_reads, quad_reads, node_reads}
use Rattle.tree.specs.Search.{Found, ends, fails, after, own_from, own, child, children, after_own, node_with, node, searched}

abbrev pub square : List ℤ
square = pos 0 ∷ pos 0 ∷ pos 10 ∷ pos 0 ∷ pos 10 ∷ pos 10 ∷ pos 0 ∷ pos 10 ∷ pos 0 ∷ pos 0 ∷ []

abbrev pub square_bytes : List ℕ
square_bytes = 0x04 ∷ 0x00 ∷ 0x01 ∷ 0x01 ∷ 0x01 ∷ 0x00 ∷ []

-- S packs to 04 00 01 01 01 00
pub square_packs : packed (tree_of (wide square) 5) ≡ square_bytes
unfolding packed own_bytes tree_of grown up_to keep differences encode encode_in
square_packs = refl

abbrev at : ℤ → Found
at y = searched square_bytes (wide square) 4 (of_int binary64 y) (ring_box (wide square) 5)

-- lists in S: y 0 gives 0, 1, 3; y 10 gives 1, 2, 3; y -1 none
pub square_0 : at (pos 0) ≡ (0 ∷ 1 ∷ 3 ∷ [], ends 6)
unfolding searched node node_with own own_from after_own after ring_box least greatest read_uvarint decode bytes_of encode encode_in of_int round odd units size span climb lt le ne values.lesser_of values.greater_of
square_0 = refl

pub square_10 : at (pos 10) ≡ (1 ∷ 2 ∷ 3 ∷ [], ends 6)
unfolding searched node node_with own own_from after_own after ring_box least greatest read_uvarint decode bytes_of encode encode_in of_int round odd units size span climb lt le ne values.lesser_of values.greater_of
square_10 = refl

pub square_below : at (negsuc 0) ≡ ([], ends 0)
unfolding searched ring_box least greatest of_int round odd units size span climb lt le ne values.lesser_of values.greater_of
square_below = refl

-- The bytes read as one node with the segments 0 to 3.
pub square_reads : node_reads square_bytes (leaf (0 ∷ 1 ∷ 2 ∷ 3 ∷ [])) 0 6
unfolding node_reads head_reads own_reads read_uvarint decode bytes_of encode encode_in
square_reads = (1, 5, refl, (0, 2, refl, refl, (1, 3, refl, refl, (1, 4, refl, refl, (1, 5, refl, refl, refl)))), omega arith, refl, refl)

-- S with a split byte 1 and four quadrants that hold nothing: other bytes, which read as another tree and which a search finds the same segments by.
abbrev pub split_bytes : List ℕ
split_bytes = 0x04 ∷ 0x00 ∷ 0x01 ∷ 0x01 ∷ 0x01 ∷ 0x01 ∷ 0x00 ∷ 0x00 ∷ 0x00 ∷ 0x00 ∷ []

pub split_reads : node_reads split_bytes (split (0 ∷ 1 ∷ 2 ∷ 3 ∷ []) (λ q. empty)) 0 10
unfolding node_reads head_reads own_reads quad_reads read_uvarint decode bytes_of encode encode_in
split_reads =
    (6, 7, 8, 9, (1, 5, refl, (0, 2, refl, refl, (1, 3, refl, refl, (1, 4, refl, refl, (1, 5, refl, refl, refl)))), omega arith, refl, refl), refl, refl, refl, refl)

pub split_0 : searched split_bytes (wide square) 4 (of_int binary64 (pos 0)) (ring_box (wide square) 5) ≡ (0 ∷ 1 ∷ 3 ∷ [], ends 10)
unfolding searched node node_with own own_from child children after_own after ring_box least greatest read_uvarint decode bytes_of encode encode_in of_int round odd units size span climb lt le ne values.lesser_of values.greater_of
split_0 = refl

-- "04 84 00 ..": the second number is loose and, were it read, not below the count: 15 and not 9
pub square_loose : searched (0x04 ∷ 0x84 ∷ 0x00 ∷ 0x01 ∷ 0x01 ∷ 0x01 ∷ 0x00 ∷ []) (wide square) 4 (of_int binary64 (pos 0)) (ring_box (wide square) 5) ≡ ([], fails (Loose 1))
unfolding searched node node_with own own_from after_own after ring_box least greatest read_uvarint decode bytes_of encode encode_in of_int round odd units size span climb lt le ne values.lesser_of values.greater_of
square_loose = refl

-- 12 segments make a leaf; 13 split
module _ (ring : ℕ → Float) (left : ℕ) (box : Rect) (xs : List ℕ) where
  pub twelve : length xs ≤ 12 → grown ring (suc left) box xs ≡ leaf xs
  unfolding grown
  twelve h = rw (le-leb (length xs) max_items (omega arith))

  pub thirteen : 12 < length xs → grown ring (suc left) box xs ≡ split (stayers ring box xs) (kid_of ring left box xs)
  unfolding grown
  thirteen h = rw (lt-leb (length xs) max_items (omega arith))
