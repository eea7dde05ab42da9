-- What growing leaves is what packing asks for, and what packing then writes is the tree's bytes. Assumes nothing.
use Prim.Native.Nat.{ℕ, zero, suc, ◌+◌, ◌*◌, ◌≤◌, ◌<◌}
use mathlib.Core.Path.{◌≡◌, refl, ap, ◌∙◌}
use mathlib.Core.List.{List, [], ◌∷◌, ◌++◌, append_assoc, append-nil}
use mathlib.Core.Bool.{Bool, true, false, cond}
use native.Mathlib.Omega.{arith}
use native.Mathlib.Nat.{zero-add}
use lib.Dec.{leb}
use lib.ListN.{length, get_or, length-append}
use lib.Seq.{take_at, drop_at, take-append_seam, drop-append_seam}
use borrow.Author.Tests.{le-leb, lt-leb, leb-true, leb-false}
use lib.Ieee.{Float}
use Rattle.boxes.specs.declared.Rect.{Rect}
use Rattle.boxes.specs.Quads.{quad_bounds}
use Rattle.tree.specs.Tree.{max_items, Tree, leaf, split, stayers, goers, unless_empty, grown, own_bytes, sized, for_each_quadrant, packed, nodes, in_order}
use Rattle.tree.proofs.Share.{kid_of, length_shares}
use Rattle.tree_grow.specs.Inner.Records.{arriving, records}
use Rattle.tree_pack.specs.Inner.Packing.{head_of, kids_of, split_of, node_of, KidsStand, NodeStands}

-- ---- a tree has as many segments as arrive
by_cases : (P : Tree → Type 0) (ring : ℕ → Float) (left : ℕ) (box : Rect) (xs : List ℕ)
    → (length xs ≤ max_items → P (leaf xs))
    → (max_items < length xs → P (split (stayers ring box xs) (kid_of ring left box xs)))
    → P (grown ring (suc left) box xs)
unfolding grown
by_cases P ring left box xs a b = go (leb (length xs) max_items) refl
  where
    go : (z : Bool) → leb (length xs) max_items ≡ z → P (cond z (leaf xs) (split (stayers ring box xs) (kid_of ring left box xs)))
    go true e = a (leb-true (length xs) max_items e)
    go false e = b (omega (arith, leb-false (length xs) max_items e))

kid_length : (ys : List ℕ) (t : Tree) → length (in_order t) ≡ length ys → length (in_order (unless_empty ys t)) ≡ length ys
unfolding in_order
kid_length [] t h = refl
kid_length (y ∷ ys) t h = h

split_length : (ring : ℕ → Float) (box : Rect) (xs : List ℕ) (f : ℕ → Tree) → ((q : ℕ) → length (in_order (f q)) ≡ length (goers ring box q xs))
    → length (in_order (split (stayers ring box xs) f)) ≡ length xs
unfolding in_order
split_length ring box xs f h = simp length-append (omega (arith, h 0, h 1, h 2, h 3, length_shares ring box xs))

pub grown_length : (ring : ℕ → Float) (left : ℕ) (box : Rect) (xs : List ℕ) → length (in_order (grown ring left box xs)) ≡ length xs
unfolding in_order grown
grown_length ring zero box xs = refl
grown_length ring (suc left) box xs =
    by_cases (λ t. length (in_order t) ≡ length xs) ring left box xs (λ h. refl)
    (λ h. split_length ring box xs (kid_of ring left box xs)
    (λ q. kid_length (goers ring box q xs) (grown ring left (quad_bounds box q) (goers ring box q xs)) (grown_length ring left (quad_bounds box q) (goers ring box q xs))))

-- ---- a node and its records, with anything behind them
pub record Stood (left : ℕ) (t : Tree) : Type 0 where
  pub long : length (records t) ≡ nodes t * 6
  pub size : (more : List ℕ) → get_or (records t ++ more) 5 0 ≡ length (packed t)
  pub same : (more : List ℕ) → node_of left (in_order t) (records t ++ more) ≡ (packed t, nodes t)
  pub stands : (more : List ℕ) → NodeStands left (in_order t) (records t ++ more)

-- a quadrant: empty, or a node with segments
record Quad (left : ℕ) (t : Tree) : Type 0 where
  long : length (records t) ≡ nodes t * 6
  none : arriving t ≡ 0 → (packed t ≡ []) × (nodes t ≡ 0) × (records t ≡ []) × (in_order t ≡ [])
  some : (arriving t ≡ 0 → ⊥) → Stood left t

-- the quadrants behind one another
record Row (left : ℕ) (counts run rest : List ℕ) (bytes : List ℕ) (n : ℕ) : Type 0 where
  same : kids_of (node_of left) counts run rest ≡ (bytes, n)
  stand : KidsStand (node_of left) (NodeStands left) counts run rest

row_done : (left : ℕ) (rest : List ℕ) → Row left [] [] rest [] 0
unfolding kids_of KidsStand
row_done left rest = record { same = refl; stand = tt }

row_none : (left : ℕ) (t : Tree) (counts run rest bytes : List ℕ) (n : ℕ) → packed t ≡ [] → nodes t ≡ 0 → records t ≡ [] → in_order t ≡ [] → Row left counts run rest bytes n
    → Row left (zero ∷ counts) (in_order t ++ run) (records t ++ rest) (sized (packed t) ++ bytes) (nodes t + n)
unfolding kids_of KidsStand
row_none left t counts run rest bytes n a b c d r = rw (a, b, c, d, zero-add) (record { same = rw r.same refl; stand = r.stand })

row_some : (left : ℕ) (t : Tree) (counts run rest bytes : List ℕ) (n m : ℕ) → length (in_order t) ≡ suc m → Stood left t → Row left counts run rest bytes n
    → Row left (suc m ∷ counts) (in_order t ++ run) (records t ++ rest) (sized (packed t) ++ bytes) (nodes t + n)
unfolding kids_of KidsStand
row_some left t counts run rest bytes n m e s r =
    let a = take_at (in_order t) run (suc m) e in
    let b = drop_at (in_order t) run (suc m) e in
    let k = s.same rest in
    let d = drop_at (records t) rest (nodes t * 6) s.long in
    record {
      same = rw (a, b, k, d, r.same) refl;
      stand = (
        record {
          within = omega (arith, e, length-append (in_order t) run);
          node = rw a (s.stands rest);
          size = rw (a, k) (s.size rest);
          fits = rw (a, k) (omega (arith, s.long, length-append (records t) rest));
        },
        rw (a, b, k, d) r.stand,
      );
    }

row_step : (left : ℕ) (t : Tree) (counts run rest bytes : List ℕ) (n : ℕ) → Quad left t → Row left counts run rest bytes n
    → Row left (arriving t ∷ counts) (in_order t ++ run) (records t ++ rest) (sized (packed t) ++ bytes) (nodes t + n)
unfolding arriving
row_step left t counts run rest bytes n q r = go (length (in_order t)) refl
  where
    go : (k : ℕ) → length (in_order t) ≡ k → Row left (k ∷ counts) (in_order t ++ run) (records t ++ rest) (sized (packed t) ++ bytes) (nodes t + n)
    go zero e = let z = q.none e in row_none left t counts run rest bytes n z.0 z.1 z.2 z.3 r
    go (suc m) e = row_some left t counts run rest bytes n m e (q.some (λ z. omega (arith, e, z))) r

-- the four quadrants of a node
row_four : (left : ℕ) (f : ℕ → Tree) (more : List ℕ) → ((q : ℕ) → Quad left (f q))
    → Row left (arriving (f 0) ∷ arriving (f 1) ∷ arriving (f 2) ∷ arriving (f 3) ∷ []) (for_each_quadrant (λ q. in_order (f q))) (for_each_quadrant (λ q. records (f q)) ++ more)
    (for_each_quadrant (λ q. sized (packed (f q)))) (nodes (f 0) + nodes (f 1) + nodes (f 2) + nodes (f 3))
row_four left f more q =
    let r3 = row_step left (f 3) [] [] more [] 0 (q 3) (row_done left more) in
    let r2 = row_step left (f 2) _ _ _ _ _ (q 2) r3 in
    let r1 = row_step left (f 1) _ _ _ _ _ (q 1) r2 in
    let r0 = row_step left (f 0) _ _ _ _ _ (q 0) r1 in
    let e : nodes (f 0) + nodes (f 1) + nodes (f 2) + nodes (f 3) ≡ nodes (f 0) + (nodes (f 1) + (nodes (f 2) + (nodes (f 3) + 0))) = omega arith in
    rw e (simp append_assoc (simp append-nil at r0))

-- a node that splits, from its first record on
node_of_lem : (left : ℕ) (own tail : List ℕ) (a b c d size : ℕ) (rest bytes : List ℕ) (n : ℕ) → max_items < length (own ++ tail) → Row left (a ∷ b ∷ c ∷ d ∷ []) tail rest bytes n
    → (node_of (suc left) (own ++ tail) (length own ∷ a ∷ b ∷ c ∷ d ∷ size ∷ rest) ≡ (head_of own 1 ++ bytes, 1 + n))
    × NodeStands (suc left) (own ++ tail) (length own ∷ a ∷ b ∷ c ∷ d ∷ size ∷ rest)
unfolding node_of split_of NodeStands
node_of_lem left own tail a b c d size rest bytes n h r = (
  rw (lt-leb (length (own ++ tail)) 12 h, take-append_seam, drop-append_seam, r.same) refl,
  (omega arith, λ k. record { within = omega (arith, length-append own tail); kids = rw drop-append_seam r.stand }),
)

stood_deepest : (xs : List ℕ) → Stood zero (leaf xs)
unfolding records nodes in_order packed node_of NodeStands
stood_deepest xs = record { long = refl; size = λ more. refl; same = λ more. refl; stands = λ more. omega arith }

stood_few : (left : ℕ) (xs : List ℕ) → length xs ≤ max_items → Stood (suc left) (leaf xs)
unfolding records nodes in_order packed node_of NodeStands
stood_few left xs h =
    record {
      long = refl;
      size = λ more. refl;
      same = λ more. rw (le-leb (length xs) 12 h) refl;
      stands = λ more. (omega arith, λ k. absurd (omega arith));
    }

stood_split : (left : ℕ) (xs : List ℕ) (f : ℕ → Tree) → max_items < length (in_order (split xs f)) → ((q : ℕ) → Quad left (f q)) → Stood (suc left) (split xs f)
unfolding records nodes in_order packed
stood_split left xs f h q =
    record {
      long = simp length-append (omega (arith, (q 0).long, (q 1).long, (q 2).long, (q 3).long));
      size = λ more. refl;
      same = λ more. (node_of_lem left xs _ _ _ _ _ _ _ _ _ h (row_four left f more q)).0
          ∙ ap (λ (b : List ℕ). (b, 1 + (nodes (f 0) + nodes (f 1) + nodes (f 2) + nodes (f 3)))) (append_assoc (own_bytes xs) (1 ∷ []) (for_each_quadrant (λ q. sized (packed (f q)))));
      stands = λ more. (node_of_lem left xs _ _ _ _ _ _ _ _ _ h (row_four left f more q)).1;
    }

quad_kid : (left : ℕ) (ys : List ℕ) (t : Tree) → Stood left t → length (in_order t) ≡ length ys → Quad left (unless_empty ys t)
unfolding records nodes in_order packed arriving
quad_kid left [] t s h = record { long = refl; none = λ e. (refl, refl, refl, refl); some = λ z. absurd (z refl) }
quad_kid left (y ∷ ys) t s h = record { long = s.long; none = λ e. absurd (omega (arith, e)); some = λ z. s }

-- So a grown tree stands as the packer asks, and its bytes are the tree's.
pub standing : (ring : ℕ → Float) (left : ℕ) (box : Rect) (xs : List ℕ) → Stood left (grown ring left box xs)
unfolding grown
standing ring zero box xs = stood_deepest xs
standing ring (suc left) box xs =
    by_cases (Stood (suc left)) ring left box xs (stood_few left xs)
    (λ h. stood_split left (stayers ring box xs) (kid_of ring left box xs)
    (omega (arith, h, split_length ring box xs (kid_of ring left box xs) (λ q. kid_length (goers ring box q xs) _ (grown_length ring left (quad_bounds box q) (goers ring box q xs)))))
    (λ q. quad_kid left (goers ring box q xs) (grown ring left (quad_bounds box q) (goers ring box q xs)) (standing ring left (quad_bounds box q) (goers ring box q xs)) (grown_length ring left (quad_bounds box q) (goers ring box q xs))))
