-- Searching the bytes of a tree gives its segments that hold the height, in node order. Assumes nothing.
use Prim.Native.Nat.{ℕ, ◌+◌, ◌-◌, ◌^◌, ◌≤◌, ◌<◌}
use mathlib.Core.Path.{◌≡◌, refl, sym, ap, ap₂, ◌∙◌}
use mathlib.Core.List.{List, [], ◌∷◌, ◌++◌, append-nil}
use mathlib.Core.Bool.{Bool, true, false, cond}
use mathlib.Core.Logic.{⊎_elim}
use native.Mathlib.Omega.{arith}
use lib.ListN.{length, get_or, take, length-append}
use lib.Ieee.{Float}
use borrow.Author.Tests.{lt-ltb, le-ltb, eq-eqb, ne_eqb}
use Rattle.room.specs.Room.{Holds}
use Rattle.room.specs.Numbers.{cons_if}
use Rattle.room.proofs.Holds.{holds_take, holds_front, holds_rest, holds_first}
use Rattle.room.proofs.Cases.{eq_or}
use Rattle.boxes.specs.declared.Rect.{Rect}
use Rattle.boxes.specs.Quads.{quad_bounds}
use Rattle.rings.specs.Ring.{side_at, holds_height}
use Rattle.varint.specs.Leb128.{encode}
use Rattle.varint.proofs.Back.{holds_reads}
use Rattle.tree.specs.Tree.{Tree, leaf, split, those, for_each_quadrant, differences, own_bytes, sized, packed, in_order}
use Rattle.tree.specs.Search.{Found, ends, upto, after, got, closed, meets_height, field, listed, own_from, own, child, children, after_own, node_with}
use Rattle.tree.specs.All.{All}
use Rattle.tree.proofs.Lists.{Rising, those_append}
use Rattle.tree.proofs.Size.{Small}

pub sized_length : (bs : List ℕ) → length (sized bs) ≡ length (encode (length bs)) + length bs
unfolding sized
sized_length bs = length-append (encode (length bs)) bs

pub after_then : (x : Found) (f : ℕ → Found) (xs ys : List ℕ) (p p' : ℕ) → x ≡ (xs, ends p) → f p ≡ (ys, ends p') → after x f ≡ (xs ++ ys, ends p')
unfolding after
after_then x f xs ys p p' e g = rw e (ap (λ (r : Found). (xs ++ r.0, r.1)) g)

module _ (bytes : List ℕ) (ring : ℕ → Float) (segments : ℕ) (y : Float) where
  abbrev pub holds_at : ℕ → Bool
  holds_at i = holds_height (side_at ring i) y

  -- a number that stands at p is read there
  field_back : (end p x : ℕ) (f : ℕ → ℕ → Found) → Small x → Holds bytes p (encode x) → p + length (encode x) ≤ end
      → field bytes ring segments y end p f ≡ f x (p + length (encode x))
  field_back end p x f s h l =
      ap (λ r. got r f) (holds_reads 64 (omega arith) x s (take end bytes) p (holds_take bytes p end (encode x) l h))

  those_nil : those holds_at [] ≡ []
  unfolding those
  those_nil = refl

  one_listed : (x : ℕ) (b : Bool) (ys : List ℕ) → cons_if b x [] ++ ys ≡ cons_if b x ys
  one_listed x true ys = refl
  one_listed x false ys = refl

  own_back : (end last p : ℕ) (xs : List ℕ) → segments ≤ 2 ^ 64 → All (λ x. x < segments) xs → Rising last xs → Holds bytes p (differences last xs)
      → p + length (differences last xs) ≤ end
      → own_from bytes ring segments y end (length xs) last p ≡ (those holds_at xs, ends (p + length (differences last xs)))
  unfolding All Rising differences own_from those
  own_back end last p [] s a r h l = ap (λ (k : ℕ). upto k) (omega arith)
  own_back end last p (x ∷ xs) s a r h l =
      let d = encode (x - last) in
      let m = length-append d (differences x xs) in
      let k : last + (x - last) ≡ x = omega (arith, r.0) in
      field_back end p (x - last) _ (omega (arith, a.0)) (holds_front bytes p d (differences x xs) h) (omega arith)
      ∙ rw (k, lt-ltb x segments a.0)
      (after_then (listed bytes ring segments y x, ends (p + length d)) (λ q. own_from bytes ring segments y end (length xs) x q) _ _ _ _ refl
      (own_back end x (p + length d) xs s a.1 r.1 (holds_rest bytes p d (differences x xs) h) (omega arith))
      ∙ ap₂ (λ (l : List ℕ) (q : ℕ). (l, ends q)) (one_listed x (holds_at x) (those holds_at xs)) (omega arith))

  -- a node's own segments
  pub record Own (xs : List ℕ) : Type 0 where
    pub few : segments ≤ 2 ^ 64
    pub many : Small (length xs)
    pub within : All (λ x. x < segments) xs
    pub rising : Rising 0 xs

  own_whole : (end p : ℕ) (xs : List ℕ) → Own xs → Holds bytes p (own_bytes xs) → p + length (own_bytes xs) ≤ end
      → own bytes ring segments y end p ≡ (those holds_at xs, ends (p + length (own_bytes xs)))
  unfolding own own_bytes
  own_whole end p xs o h l =
      let d = encode (length xs) in
      let m = length-append d (differences 0 xs) in
      field_back end p (length xs) _ o.many (holds_front bytes p d (differences 0 xs) h) (omega arith)
      ∙ own_back end 0 (p + length d) xs o.few o.within o.rising (holds_rest bytes p d (differences 0 xs) h) (omega arith)
      ∙ ap (λ (q : ℕ). (those holds_at xs, ends q)) (omega arith)

  closed_at : (end p : ℕ) → p ≡ end → closed end p ≡ ([], ends end)
  closed_at end p e = rw (e, eq-eqb end end refl)

  module _ (deepest : Bool) (visit : Rect → ℕ → ℕ → Found) (box : Rect) (p end : ℕ) where
    pub leaf_back : (xs : List ℕ) → Own xs → Holds bytes p (packed (leaf xs)) → p + length (packed (leaf xs)) ≡ end
        → node_with bytes ring segments y deepest visit box p end ≡ (those holds_at xs, ends end)
    unfolding node_with after_own packed
    leaf_back xs o h e =
        let m = length-append (own_bytes xs) (0 ∷ []) in
        let q = p + length (own_bytes xs) in
        let b : get_or bytes q 0 ≡ 0 = holds_first bytes q 0 [] 0 (holds_rest bytes p (own_bytes xs) (0 ∷ []) h) in
        after_then _ _ _ [] q end (own_whole end p xs o (holds_front bytes p (own_bytes xs) (0 ∷ []) h) (omega arith))
        (rw (lt-ltb q end (omega arith), b) (closed_at end (q + 1) (omega arith)))
        ∙ ap (λ (l : List ℕ). (l, ends end)) (append-nil (those holds_at xs))

  -- how a node is read whose bytes stand somewhere
  abbrev pub ReadsAs : (Rect → ℕ → ℕ → Found) → Rect → Tree → Type 0
  ReadsAs visit box t = (p : ℕ) → Holds bytes p (packed t) → visit box p (p + length (packed t)) ≡ (those holds_at (in_order t), ends (p + length (packed t)))

  -- a quadrant whose bytes can be read, or whose box misses the height and which then has no segment that holds it
  pub record Kid (visit : Rect → ℕ → ℕ → Found) (box : Rect) (t : Tree) : Type 0 where
    pub small : Small (length (packed t))
    pub nothing : length (packed t) ≡ 0 → in_order t ≡ []
    pub reads : meets_height box y ≡ true → (length (packed t) ≡ 0 → ⊥) → ReadsAs visit box t
    pub misses : meets_height box y ≡ false → those holds_at (in_order t) ≡ []

  module _ (visit : Rect → ℕ → ℕ → Found) (box : Rect) (end : ℕ) where
    child_back : (q p : ℕ) (t : Tree) → Kid visit (quad_bounds box q) t → Holds bytes p (sized (packed t)) → p + length (sized (packed t)) ≤ end
        → child bytes ring segments y false visit box end q p ≡ (those holds_at (in_order t), ends (p + length (sized (packed t))))
    unfolding child sized
    child_back q p t k h l =
        let m = sized_length (packed t) in
        let d = encode (length (packed t)) in
        let n = length (packed t) in
        field_back end p n _ k.small (holds_front bytes p d (packed t) h) (omega arith)
        ∙ ⊎_elim
        (λ (z : length (packed t) ≡ 0). rw (eq-eqb (length (packed t)) 0 z)
        (ap₂ (λ (xs : List ℕ) (r : ℕ). (xs, ends r)) (sym (ap (λ (xs : List ℕ). those holds_at xs) (k.nothing z) ∙ those_nil)) (omega arith)))
        (λ (z : length (packed t) ≡ 0 → ⊥). rw (ne_eqb (length (packed t)) 0 z, le-ltb end (p + length d + n) (omega arith))
        (go (p + length d) z (holds_rest bytes p d (packed t) h) (meets_height (quad_bounds box q) y) refl ∙ ap (λ (r : ℕ). (those holds_at (in_order t), ends r)) (omega arith)))
        (eq_or (length (packed t)) 0)
      where
        go : (a : ℕ) → (length (packed t) ≡ 0 → ⊥) → Holds bytes a (packed t) → (b : Bool) → meets_height (quad_bounds box q) y ≡ b
            → cond b (visit (quad_bounds box q) a (a + length (packed t))) (upto (a + length (packed t))) ≡ (those holds_at (in_order t), ends (a + length (packed t)))
        go a z g true e = k.reads e z a g
        go a z g false e = ap (λ (xs : List ℕ). (xs, ends (a + length (packed t)))) (sym (k.misses e))

    children_back : (p : ℕ) (f : ℕ → Tree) → ((q : ℕ) → Kid visit (quad_bounds box q) (f q)) → Holds bytes p (for_each_quadrant (λ q. sized (packed (f q))))
        → p + length (for_each_quadrant (λ q. sized (packed (f q)))) ≡ end
        → children bytes ring segments y false visit box end p ≡ (those holds_at (for_each_quadrant (λ q. in_order (f q))), ends end)
    unfolding children
    children_back p f k h e =
        let s0 = sized (packed (f 0)) in
        let s1 = sized (packed (f 1)) in
        let s2 = sized (packed (f 2)) in
        let s3 = sized (packed (f 3)) in
        let l0 = length-append s0 (s1 ++ (s2 ++ s3)) in
        let l1 = length-append s1 (s2 ++ s3) in
        let l2 = length-append s2 s3 in
        let h1 = holds_rest bytes p s0 (s1 ++ (s2 ++ s3)) h in
        let h2 = holds_rest bytes (p + length s0) s1 (s2 ++ s3) h1 in
        let h3 = holds_rest bytes (p + length s0 + length s1) s2 s3 h2 in
        after_then _ _ _ _ _ end (child_back 0 p (f 0) (k 0) (holds_front bytes p s0 _ h) (omega arith))
        (after_then _ _ _ _ _ end (child_back 1 _ (f 1) (k 1) (holds_front bytes _ s1 _ h1) (omega arith))
        (after_then _ _ _ _ _ end (child_back 2 _ (f 2) (k 2) (holds_front bytes _ s2 _ h2) (omega arith))
        (after_then _ _ _ _ _ end (child_back 3 _ (f 3) (k 3) h3 (omega arith))
        (closed_at end (p + length s0 + length s1 + length s2 + length s3) (omega arith)))))
        ∙ ap (λ (xs : List ℕ). (xs, ends end)) (quarters (in_order (f 0)) (in_order (f 1)) (in_order (f 2)) (in_order (f 3)))
      where
        quarters : (a b c d : List ℕ) → those holds_at a ++ (those holds_at b ++ (those holds_at c ++ (those holds_at d ++ []))) ≡ those holds_at (a ++ (b ++ (c ++ d)))
        quarters a b c d = rw (append-nil (those holds_at d), those_append holds_at a (b ++ (c ++ d)), those_append holds_at b (c ++ d), those_append holds_at c d)

    pub split_back : (p : ℕ) (xs : List ℕ) (f : ℕ → Tree) → Own xs → ((q : ℕ) → Kid visit (quad_bounds box q) (f q)) → Holds bytes p (packed (split xs f))
        → p + length (packed (split xs f)) ≡ end
        → node_with bytes ring segments y false visit box p end ≡ (those holds_at (in_order (split xs f)), ends end)
    unfolding node_with after_own packed in_order
    split_back p xs f o k h e =
        let rest = for_each_quadrant (λ q. sized (packed (f q))) in
        let m = length-append (own_bytes xs) (1 ∷ rest) in
        let at = p + length (own_bytes xs) in
        let g = holds_rest bytes p (own_bytes xs) (1 ∷ rest) h in
        let b : get_or bytes at 0 ≡ 1 = holds_first bytes at 1 rest 0 g in
        after_then _ _ _ _ at end (own_whole end p xs o (holds_front bytes p (own_bytes xs) (1 ∷ rest) h) (omega arith))
        (rw (lt-ltb at end (omega arith), b) (children_back (at + 1) f k (holds_rest bytes at (1 ∷ []) rest g) (omega arith)))
        ∙ ap (λ (l : List ℕ). (l, ends end)) (sym (those_append holds_at xs (for_each_quadrant (λ q. in_order (f q)))))
