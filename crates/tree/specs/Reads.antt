-- What bytes read as, whatever the height that is asked for: the nodes, each with its own segments and its quadrants, as 01 lays them out under "The packed
-- tree". Nothing here says how long a node is or how a number is written; that follows, by `reads_packed`, since no varint is loose (02, CR 6).
use Rattle.std.specs.Prelude.{Ok, ℕ, ◌+◌, ◌≤◌, ◌<◌, ◌≡◌, List, [], ◌∷◌, length, get_or, take}
use Rattle.varint.specs.Uvarint.{read_uvarint}
use Rattle.tree.specs.Tree.{Tree, empty, leaf, split}

module _ (bytes : List ℕ) where
  -- the number at p, in a part that ends before `end`, and the place past it
  abbrev pub field_reads : ℕ → ℕ → ℕ → ℕ → Type 0
  field_reads end p v next = read_uvarint 64 (take end bytes) p ≡ Ok (v, next)

  -- "rising differences from 0"
  unfoldable pub own_reads : ℕ → ℕ → ℕ → List ℕ → ℕ → Type 0
  own_reads end last p [] next = p ≡ next
  own_reads end last p (x ∷ xs) next = (d : ℕ) × (q : ℕ) × field_reads end p d q × (x ≡ last + d) × own_reads end x q xs next

  -- "count, rising differences from 0, split byte 0 or 1"
  unfoldable pub head_reads : ℕ → ℕ → List ℕ → ℕ → ℕ → Type 0
  head_reads end p xs byte next =
      (q : ℕ) × (r : ℕ) × field_reads end p (length xs) q × own_reads end 0 q xs r × (r < end) × (get_or bytes r 0 ≡ byte) × (next ≡ r + 1)

  -- a part of some size that reads as a node
  abbrev sized_reads : (ℕ → ℕ → Type 0) → ℕ → ℕ → ℕ → Type 0
  sized_reads node end p next = (size : ℕ) × (start : ℕ) × field_reads end p size start × (0 < size) × (next ≡ start + size) × (next ≤ end) × node start next

  -- "for each quadrant the byte size and the bytes, or 0"
  unfoldable pub quad_reads : Tree → (ℕ → ℕ → Type 0) → ℕ → ℕ → ℕ → Type 0
  quad_reads empty node end p next = field_reads end p 0 next
  quad_reads (leaf xs) node end p next = sized_reads node end p next
  quad_reads (split xs kids) node end p next = sized_reads node end p next

  -- the part from p to `end` reads as a node; no byte is left over
  unfoldable pub node_reads : Tree → ℕ → ℕ → Type 0
  node_reads empty p end = ⊥
  node_reads (leaf xs) p end = head_reads end p xs 0 end
  node_reads (split xs kids) p end =
      (q : ℕ) × (q₁ : ℕ) × (q₂ : ℕ) × (q₃ : ℕ) × head_reads end p xs 1 q
      × quad_reads (kids 0) (node_reads (kids 0)) end q q₁
      × quad_reads (kids 1) (node_reads (kids 1)) end q₁ q₂
      × quad_reads (kids 2) (node_reads (kids 2)) end q₂ q₃
      × quad_reads (kids 3) (node_reads (kids 3)) end q₃ end
