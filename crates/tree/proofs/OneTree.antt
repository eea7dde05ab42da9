-- Bytes that read as the same nodes, own segments and quadrants are the same bytes (02, CR 6): each is what packing writes for them. Assumes nothing.
use Prim.Native.Nat.{ℕ, ◌+◌, ◌-◌, ◌≤◌}
use mathlib.Core.Path.{◌≡◌, refl, sym, ap, ap₂, ◌∙◌}
use mathlib.Core.List.{List, [], ◌∷◌, ◌++◌, append_assoc, append-nil}
use native.Mathlib.Omega.{arith}
use native.Mathlib.Numerals.{add-one}
use lib.ListN.{length, take, drop, length-append, drop_of_length-le, length-take}
use lib.Seq.{drop-cons}
use Rattle.room.proofs.Holds.{holds_drop, take_holds}
use Rattle.varint.specs.Bytes.{Bytes}
use Rattle.varint.specs.Leb128.{encode}
use Rattle.varint.proofs.Answers.{read_onward}
use Rattle.varint.proofs.Inverse.{bytes_take, read_stands}
use Rattle.tree.specs.Tree.{Tree, empty, leaf, split, for_each_quadrant, differences, own_bytes, sized, packed}
use Rattle.tree.specs.Reads.{field_reads, own_reads, head_reads, quad_reads, node_reads}

module _ (bytes : List ℕ) (isBytes : Bytes bytes) where
  -- vs stands from p on, up to q
  record Stands (p : ℕ) (vs : List ℕ) (q : ℕ) : Type 0 where
    from : drop p bytes ≡ vs ++ drop q bytes
    long : q ≡ p + length vs

  nothing : (p : ℕ) → Stands p [] p
  nothing p = record { from = refl; long = omega arith }

  join : (p q r : ℕ) (us vs : List ℕ) → Stands p us q → Stands q vs r → Stands p (us ++ vs) r
  join p q r us vs a b =
      record {
        from = a.from ∙ ap (λ (l : List ℕ). us ++ l) b.from ∙ sym (append_assoc us vs (drop r bytes));
        long = omega (arith, a.long, b.long, length-append us vs);
      }

  field_stands : (end p v next : ℕ) → field_reads bytes end p v next → Stands p (encode v) next
  field_stands end p v next e =
      let r = read_stands 64 (take end bytes) p v next (bytes_take bytes end isBytes) e in
      let o = read_onward 64 (take end bytes) p v next e in
      record {
        from = holds_drop bytes p (encode v) (take_holds bytes p end (encode v) (omega (arith, r.place, o.1, length-take end bytes)) r.stands) ∙ rw r.place;
        long = r.place;
      }

  own_stands : (end last p : ℕ) (xs : List ℕ) (next : ℕ) → own_reads bytes end last p xs next → Stands p (differences last xs) next
  unfolding own_reads differences
  own_stands end last p [] next e = rw (← e) (nothing p)
  own_stands end last p (x ∷ xs) next (d, q, field, is, rest) =
      let k : d ≡ x - last = omega arith in
      join p q next (encode (x - last)) (differences x xs) (rw k at (field_stands end p d q field)) (own_stands end x q xs next rest)

  head_stands : (end p : ℕ) (xs : List ℕ) (byte next : ℕ) → end ≤ length bytes → head_reads bytes end p xs byte next → Stands p (own_bytes xs ++ (byte ∷ [])) next
  unfolding head_reads own_bytes
  head_stands end p xs byte next l (q, r, count, own, inside, is, place) =
      join p r next (encode (length xs) ++ differences 0 xs) (byte ∷ [])
      (join p q r (encode (length xs)) (differences 0 xs) (field_stands end p (length xs) q count) (own_stands end 0 q xs r own))
      (record { from = drop-cons bytes r 0 (omega arith) ∙ ap₂ (λ (b n : ℕ). b ∷ drop n bytes) is (sym (add-one r) ∙ sym place); long = place })

  -- a size and what stands behind it
  behind : (t : Tree) (size start p next end : ℕ) → next ≡ start + size → field_reads bytes end p size start → Stands start (packed t) next → Stands p (sized (packed t)) next
  unfolding sized
  behind t size start p next end place field stands =
      let k : size ≡ length (packed t) = omega (arith, stands.long) in
      join p start next (encode (length (packed t))) (packed t) (rw k at (field_stands end p size start field)) stands

  -- a node where it is read: what it reads as stands there
  abbrev NodeStands : Tree → Type 0
  NodeStands t = (p end : ℕ) → end ≤ length bytes → node_reads bytes t p end → Stands p (packed t) end

  quad_stands : (t : Tree) → NodeStands t → (end p next : ℕ) → end ≤ length bytes → quad_reads bytes t (node_reads bytes t) end p next → Stands p (sized (packed t)) next
  unfolding quad_reads sized packed
  quad_stands empty node end p next l field = join p next next (encode 0) [] (field_stands end p 0 next field) (nothing next)
  quad_stands (leaf xs) node end p next l (size, start, field, some, place, inside, reads) = behind (leaf xs) size start p next end place field (node start next (omega arith) reads)
  quad_stands (split xs kids) node end p next l (size, start, field, some, place, inside, reads) = behind (split xs kids) size start p next end place field (node start next (omega arith) reads)

  node_stands : (t : Tree) → NodeStands t
  unfolding node_reads packed
  node_stands empty p end l reads = absurd reads
  node_stands (leaf xs) p end l reads = head_stands end p xs 0 end l reads
  node_stands (split xs kids) p end l (q, q₁, q₂, q₃, head, k₀, k₁, k₂, k₃) =
      let f : ℕ → List ℕ = λ k. sized (packed (kids k)) in
      let s₃ = quad_stands (kids 3) (node_stands (kids 3)) end q₃ end l k₃ in
      let s₂ = join q₂ q₃ end (f 2) (f 3) (quad_stands (kids 2) (node_stands (kids 2)) end q₂ q₃ l k₂) s₃ in
      let s₁ = join q₁ q₂ end (f 1) (f 2 ++ f 3) (quad_stands (kids 1) (node_stands (kids 1)) end q₁ q₂ l k₁) s₂ in
      let s₀ = join q q₁ end (f 0) (f 1 ++ (f 2 ++ f 3)) (quad_stands (kids 0) (node_stands (kids 0)) end q q₁ l k₀) s₁ in
      rw (append_assoc (own_bytes xs) (1 ∷ []) (for_each_quadrant f)) at (join p q end (own_bytes xs ++ (1 ∷ [])) (for_each_quadrant f) (head_stands end p xs 1 q l head) s₀)

  -- Bytes that read as a tree, to their end, are what packing writes for it.
  pub reads_packed : (t : Tree) → node_reads bytes t 0 (length bytes) → bytes ≡ packed t
  reads_packed t reads =
      let s = node_stands t 0 (length bytes) (omega arith) reads in
      s.from ∙ rw (drop_of_length-le bytes {i = length bytes} (omega arith)) (append-nil (packed t))

-- So two byte strings that read as one tree are one byte string.
pub one_tree : (t : Tree) (bytes bytes' : List ℕ) → Bytes bytes → Bytes bytes' → node_reads bytes t 0 (length bytes) → node_reads bytes' t 0 (length bytes') → bytes ≡ bytes'
one_tree t bytes bytes' is is' reads reads' = reads_packed bytes is t reads ∙ sym (reads_packed bytes' is' t reads')
