-- The search by the ways through its definition, one law for each: what the functions' proofs go by. Assumes nothing.
use Prim.Native.Nat.{ℕ, zero, suc, ◌+◌, ◌-◌, ◌≤◌, ◌<◌}
use mathlib.Core.Path.{◌≡◌, refl, sym, ap, ◌∙◌}
use mathlib.Core.List.{[]}
use mathlib.Core.Bool.{Bool, true, false, cond}
use native.Mathlib.Omega.{arith}
use native.Mathlib.Numerals.{sub-one}
use lib.Dec.{eqb}
use lib.ListN.{get_or, take, length-take}
use borrow.Author.Tests.{lt-ltb, le-ltb, eq-eqb, ne_eqb}
use Rattle.std.specs.Prelude.{Ok, Err}
use Rattle.answers.specs.declared.Refusal.{Refusal}
use Rattle.answers.specs.declared.Refusal.TheVariants.{Damaged}
use Rattle.boxes.specs.declared.Rect.{Rect}
use Rattle.boxes.specs.Quads.{quad_bounds}
use Rattle.rings.specs.Ring.{side_at, holds_height}
use Rattle.varint.specs.Uvarint.{ReadUvarint}
use Rattle.varint.specs.Uvarint.{read_uvarint}
use Rattle.varint.proofs.Answers.{read_onward}
use Rattle.room.specs.Numbers.{cons_if}
use Rattle.tree.specs.Search.{Found, ends, upto, damaged, after, closed, listed, meets_height, own_from, own, child, children, after_own, by_split, node_with, node}
use Rattle.tree_find.specs.declared.Reading.{Reading}
use Rattle.tree_find.specs.Inner.Walks.{Step, Out, onward, poured, pour, then, finish_of}
use Rattle.tree_find.specs.Inner.Parts.{ring_of, own_list_in, own_in, node_in, below, child_in, after_own_in, children_from, children_to}
use Rattle.tree_find.proofs.Pour.{pour_after}

module _ (r : Reading) where
  -- what is read at p, in a part that ends before `end`
  abbrev reads : ℕ → ℕ → ReadUvarint
  reads end p = read_uvarint 64 (take end r.bytes.now) p

  -- whether segment i holds the height
  abbrev holds : ℕ → Bool
  holds i = holds_height (side_at (ring_of r) i) r.y

  -- a number that was read ends inside the part
  pub read_within : (end p v q : ℕ) → reads end p ≡ Ok (v, q) → q ≤ end
  read_within end p v q e = omega (arith, read_onward 64 (take end r.bytes.now) p v q e, length-take end r.bytes.now)

  below_node : (left : ℕ) (box : Rect) (p end : ℕ) → (left ≡ 0 → ⊥) → below r left box p end ≡ node_in r (left - 1) box p end
  unfolding below
  below_node zero box p end h = absurd (h refl)
  below_node (suc left) box p end h = rw sub-one

module _ {V : Type 0} (step : Step V) (r : Reading) where
  -- ---- own segments

  -- one number that is found or passed over, then what is read from the next place on
  listed_then : (x next : ℕ) (f : ℕ → Found) (v : V)
      → pour step (after (listed r.bytes.now (ring_of r) r.segments r.y x, ends next) f) v
      ≡ cond (holds r x) (onward (step x v) (λ v'. pour step (f next) v')) (pour step (f next) v)
  unfolding after poured
  listed_then x next f v = go (holds r x)
    where
      go : (b : Bool) → pour step (after (cons_if b x [], ends next) f) v ≡ cond b (onward (step x v) (λ v'. pour step (f next) v')) (pour step (f next) v)
      go true = refl
      go false = refl

  module _ (end last p : ℕ) (v : V) where
    -- what n numbers from p on come to
    abbrev rest : ℕ → Out V
    rest n = pour step (own_list_in r end n last p) v

    pub own_done : (n : ℕ) → n ≡ 0 → rest n ≡ (Ok p, v)
    unfolding own_from poured
    own_done n h = rw h

    -- one, and m after it
    module _ (n m : ℕ) (h : n ≡ suc m) where
      pub own_unread : (why : Refusal) → reads r end p ≡ Err why → rest n ≡ (Err why, v)
      unfolding own_from poured
      own_unread why e = rw (h, e)

      module _ (d q : ℕ) (e : reads r end p ≡ Ok (d, q)) where
        pub own_over : r.segments ≤ last + d → rest n ≡ (Err (Damaged p), v)
        unfolding own_from poured
        own_over b = rw (h, e, le-ltb (last + d) r.segments b)

        module _ (b : last + d < r.segments) where
          own_next : rest n ≡ cond (holds r (last + d)) (onward (step (last + d) v) (λ v'. pour step (own_list_in r end m (last + d) q) v')) (pour step (own_list_in r end m (last + d) q) v)
          unfolding own_from
          own_next = rw (h, e, lt-ltb (last + d) r.segments b) (listed_then (last + d) q (own_list_in r end m (last + d)) v)

          pub own_skip : holds r (last + d) ≡ false → rest n ≡ pour step (own_list_in r end m (last + d) q) v
          own_skip f = own_next ∙ rw f

          module _ (t : holds r (last + d) ≡ true) (v' : V) where
            pub own_more : step (last + d) v ≡ (Ok tt, v') → rest n ≡ pour step (own_list_in r end m (last + d) q) v'
            unfolding onward
            own_more k = own_next ∙ rw (t, k)

            pub own_stop : (why : Refusal) → step (last + d) v ≡ (Err why, v') → rest n ≡ (Err why, v')
            unfolding onward
            own_stop why k = own_next ∙ rw (t, k)

  module _ (end p : ℕ) (v : V) where
    pub count_unread : (why : Refusal) → reads r end p ≡ Err why → pour step (own_in r end p) v ≡ (Err why, v)
    unfolding own poured
    count_unread why e = rw e

    pub count_read : (n q : ℕ) → reads r end p ≡ Ok (n, q) → pour step (own_in r end p) v ≡ pour step (own_list_in r end n 0 q) v
    unfolding own
    count_read n q e = rw e

  -- ---- the end of a node's part
  finish_is : (end p : ℕ) (v : V) → pour step (closed end p) v ≡ (finish_of end p, v)
  unfolding poured
  finish_is end p v = go (eqb p end)
    where
      go : (b : Bool) → pour step (cond b (upto p) (damaged p)) v ≡ (cond b (Ok p) (Err (Damaged p)), v)
      go true = refl
      go false = refl

  -- ---- a quadrant
  module _ (left : ℕ) (box : Rect) (end q p : ℕ) (v : V) where
    abbrev quad : Out V
    quad = pour step (child_in r left box end q p) v

    pub child_unread : (why : Refusal) → reads r end p ≡ Err why → quad ≡ (Err why, v)
    unfolding child poured
    child_unread why e = rw e

    module _ (size from : ℕ) (e : reads r end p ≡ Ok (size, from)) where
      pub child_none : size ≡ 0 → quad ≡ (Ok from, v)
      unfolding child poured
      child_none a = rw (e, eq-eqb size 0 a)

      module _ (a : size ≡ 0 → ⊥) where
        pub child_deep : left ≡ 0 → quad ≡ (Err (Damaged p), v)
        unfolding child poured
        child_deep d = rw (e, ne_eqb size 0 a, eq-eqb left 0 d)

        module _ (d : left ≡ 0 → ⊥) where
          pub child_past : end - from < size → quad ≡ (Err (Damaged p), v)
          unfolding child poured
          child_past l =
              let w = read_within r end p size from e in
              let g : end < from + size = omega arith in
              rw (e, ne_eqb size 0 a, ne_eqb left 0 d, lt-ltb end (from + size) g)

          module _ (l : size ≤ end - from) (inner : Rect) (i : inner ≡ quad_bounds box q) (m : Bool) (meets : m ≡ meets_height inner r.y) where
            there : from + size ≤ end
            there = let w = read_within r end p size from e in omega arith

            met : (b : Bool) → m ≡ b → meets_height (quad_bounds box q) r.y ≡ b
            met b f = ap (λ (b : Rect). meets_height b r.y) (sym i) ∙ sym meets ∙ f

            pub child_skip : m ≡ false → quad ≡ (Ok (from + size), v)
            unfolding child poured
            child_skip f = rw (e, ne_eqb size 0 a, ne_eqb left 0 d, le-ltb end (from + size) there, met false f)

            pub child_visit : m ≡ true → quad ≡ pour step (node_in r (left - 1) inner from (from + size)) v
            unfolding child
            child_visit t =
                rw (e, ne_eqb size 0 a, ne_eqb left 0 d, le-ltb end (from + size) there, met true t)
                (ap (λ (z : Found). pour step z v) (below_node r left (quad_bounds box q) from (from + size) d)
                ∙ ap (λ (b : Rect). pour step (node_in r (left - 1) b from (from + size)) v) (sym i))

  -- ---- the four quadrants, and what follows a node's own segments
  module _ (left : ℕ) (box : Rect) (end : ℕ) where
    pub kids_done : (q p : ℕ) (v : V) → 4 ≤ q → pour step (children_to r left box end q p) v ≡ (finish_of end p, v)
    unfolding children_to children_from
    kids_done q p v h = let e : 4 - q ≡ 0 = omega arith in rw e (finish_is end p v)

    pub kids_more : (q p : ℕ) (v : V) → q < 4
        → pour step (children_to r left box end q p) v
        ≡ then (pour step (child_in r left box end q p) v) (λ p' v'. pour step (children_to r left box end (q + 1) p') v')
    unfolding children_to children_from
    kids_more q p v h =
        let e : 4 - q ≡ suc (4 - (q + 1)) = omega arith in
        rw e (pour_after step (child_in r left box end q p) (λ p'. children_from r left box end (4 - (q + 1)) (q + 1) p') v)

    module _ (p : ℕ) (v : V) where
      abbrev last : Out V
      last = pour step (after_own_in r left box end p) v

      pub split_missing : end ≤ p → last ≡ (Err (Damaged p), v)
      unfolding after_own poured
      split_missing a = rw (le-ltb p end a)

      module _ (a : p < end) where
        pub split_leaf : get_or r.bytes.now p 0 ≡ 0 → last ≡ (finish_of end (p + 1), v)
        unfolding after_own
        split_leaf b = rw (lt-ltb p end a, b) (finish_is end (p + 1) v)

        pub split_kids : get_or r.bytes.now p 0 ≡ 1 → last ≡ pour step (children_to r left box end 0 (p + 1)) v
        unfolding after_own children children_to children_from
        split_kids b = rw (lt-ltb p end a, b)

        pub split_bad : (get_or r.bytes.now p 0 ≡ 0 → ⊥) → (get_or r.bytes.now p 0 ≡ 1 → ⊥) → last ≡ (Err (Damaged p), v)
        unfolding after_own poured
        split_bad b c = rw (lt-ltb p end a) (go (get_or r.bytes.now p 0) b c)
          where
            go : (n : ℕ) → (n ≡ 0 → ⊥) → (n ≡ 1 → ⊥)
                → pour step (by_split r.bytes.now (ring_of r) r.segments r.y n (closed end (p + 1)) (children r.bytes.now (ring_of r) r.segments r.y (eqb left 0) (below r left) box end (p + 1)) (damaged p)) v
                ≡ (Err (Damaged p), v)
            go zero b c = absurd (b refl)
            go (suc zero) b c = absurd (c refl)
            go (suc (suc n)) b c = refl

  -- ---- a node
  pub node_step : (left : ℕ) (box : Rect) (p end : ℕ) (v : V)
      → pour step (node_in r left box p end) v ≡ then (pour step (own_in r end p) v) (λ p' v'. pour step (after_own_in r left box end p') v')
  unfolding node node_with below
  node_step zero box p end v = pour_after step (own_in r end p) _ v
  node_step (suc left) box p end v = rw (ne_eqb (suc left) 0 (λ e. omega arith)) (pour_after step (own_in r end p) (after_own r.bytes.now (ring_of r) r.segments r.y false (node_in r left) box end) v)
