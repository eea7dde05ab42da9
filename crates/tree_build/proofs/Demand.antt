-- Demand 3 for the tree as it is built: searching the bytes that building left finds, for every y, exactly the segments whose own closed height range
-- holds y, each once, in node order; and the ring test through them is the scan's. Assumes nothing.
use Rattle.std.specs.Prelude.{Ok, Err, Some, None}
use Prim.Native.Nat.{ℕ, ◌-◌, ◌≤◌}
use mathlib.Core.Path.{◌≡◌, refl, sym, ap, ◌∙◌}
use mathlib.Core.List.{List}
use mathlib.Core.Bool.{Bool, true, false, cond, ◌&&◌}
use native.Mathlib.Omega.{arith}
use lib.ListN.{length, take, replicate}
use lib.Seq.{take-append_seam}
use lib.Dec.{leb, ltb}
use lib.Ieee.{Float}
use lib.Ieee.Scale.{finite}
use borrow.Author.Tests.{leb-true, le-leb, le-ltb}
use Rattle.answers.specs.declared.Refusal.{Refusal}
use Rattle.answers.specs.declared.Refusal.TheVariants.{NoRoom}
use Rattle.boxes.specs.declared.Point.{Point}
use Rattle.room.specs.Room.{padded, pad}
use Rattle.room.specs.Numbers.{bit, count}
use Rattle.rings.specs.Checks.{Checked}
use Rattle.rings.specs.Ring.{side_at, segments, holds_height, meeting}
use Rattle.tree.specs.Tree.{those, in_order, tree_of, ring_box, work_numbers}
use Rattle.tree.specs.Search.{ends, searched}
use Rattle.tree.proofs.Order.{Numbered}
use Rattle.tree.proofs.Searchable.{Searchable}
use Rattle.tree.proofs.Demand.{tree_found, tree_lists, tree_lists_length, tree_lists_once}
use Rattle.cast_test.specs.Test.{scan_test, scan_tested_by}
use Rattle.cast_test.proofs.Scan.{tested_checked}
use Rattle.tree_find.specs.Find.{answered, tree_listed_by, tree_tested_by}
use Rattle.tree_find.proofs.Demand.{lists_all, tests_as_scan}
use Rattle.tree_build.specs.Build.{TreeBuilt, Outcome, zeroed, tree_bytes, packed_in, from_threshold, when_sound, tree_built_by}

-- Every ring that passed its checks and reaches the threshold gets its tree, where the room is as large as the rules call for.
pub builds : (checked : Checked) (ring : ℕ → Float) (points threshold : ℕ) (bytes work : List ℕ) → checked ≡ Ok tt → threshold ≤ segments points
    → work_numbers ring points ≤ length work → length (tree_bytes ring points) ≤ length bytes
    → tree_built_by checked ring points threshold bytes work ≡ (Ok (Some (length (tree_bytes ring points))), pad (length bytes) (tree_bytes ring points), replicate (length work) 0)
unfolding tree_built_by from_threshold packed_in
builds checked ring points threshold bytes work sound reached enough roomy =
    rw (sound, le-ltb (segments points) threshold reached, le-leb (work_numbers ring points) (length work) enough, le-leb (length (tree_bytes ring points)) (length bytes) roomy)

-- what a successful building says
pub record Built (checked : Checked) (ring : ℕ → Float) (points : ℕ) (bytes work : List ℕ) (n : ℕ) (b w : List ℕ) : Type 0 where
  pub sound : checked ≡ Ok tt
  pub enough : work_numbers ring points ≤ length work
  pub roomy : n ≤ length bytes
  pub size : n ≡ length (tree_bytes ring points)
  pub room : b ≡ pad (length bytes) (tree_bytes ring points)
  pub rest : w ≡ replicate (length work) 0

module _ (checked : Checked) (ring : ℕ → Float) (points : ℕ) (bytes work : List ℕ) (n : ℕ) (b w : List ℕ) where
  never : (r : TreeBuilt) (x y : List ℕ) → (r ≡ Ok (Some n) → ⊥) → ◌≡◌ {A = Outcome} (r, x, y) (Ok (Some n), b, w) → ⊥
  never r x y d e = d (ap (λ (o : Outcome). o.0) e)

  refused : (why : Refusal) → Err why ≡ Ok (Some n) → ⊥
  refused why f = let z : ◌≡◌ {A = ℕ} 0 1 = cc in omega arith

  packed_is : checked ≡ Ok tt → packed_in ring points bytes work ≡ (Ok (Some n), b, w) → Built checked ring points bytes work n b w
  unfolding packed_in
  packed_is s e = go (leb (work_numbers ring points) (length work)) (leb (length (tree_bytes ring points)) (length bytes)) refl refl e
    where
      go : (x y : Bool) → leb (work_numbers ring points) (length work) ≡ x → leb (length (tree_bytes ring points)) (length bytes) ≡ y
          → ◌≡◌ {A = Outcome}
          (cond (x && y) (Ok (Some (length (tree_bytes ring points))), pad (length bytes) (tree_bytes ring points), replicate (length work) 0) (zeroed (Err NoRoom) bytes work))
          (Ok (Some n), b, w)
          → Built checked ring points bytes work n b w
      go true true p q u =
          let f : Ok (Some (length (tree_bytes ring points))) ≡ Ok (Some n) = ap (λ (o : Outcome). o.0) u in
          let k : n ≡ length (tree_bytes ring points) = cc in
          let r = leb-true (length (tree_bytes ring points)) (length bytes) q in
          record {
            sound = s;
            enough = leb-true (work_numbers ring points) (length work) p;
            roomy = omega arith;
            size = k;
            room = sym (ap (λ (o : Outcome). o.1) u);
            rest = sym (ap (λ (o : Outcome). o.2) u);
          }
      go true false p q u = absurd (never _ _ _ (refused NoRoom) u)
      go false y p q u = absurd (never _ _ _ (refused NoRoom) u)

  pub built_is : (threshold : ℕ) → tree_built_by checked ring points threshold bytes work ≡ (Ok (Some n), b, w) → Built checked ring points bytes work n b w
  unfolding tree_built_by from_threshold
  built_is threshold e = go checked (ltb (segments points) threshold) refl e
    where
      under : ◌≡◌ {A = TreeBuilt} (Ok None) (Ok (Some n)) → ⊥
      under f = let z : ◌≡◌ {A = ℕ} 0 1 = cc in omega arith

      go : (k : Checked) (u : Bool) → checked ≡ k → when_sound k bytes work (cond u (zeroed (Ok None) bytes work) (packed_in ring points bytes work)) ≡ (Ok (Some n), b, w)
          → Built checked ring points bytes work n b w
      go (Ok _) false p f = packed_is p f
      go (Ok _) true p f = absurd (never _ _ _ under f)
      go (Err why) u p f = absurd (never _ _ _ (refused why) f)

pad_used : (n : ℕ) (xs : List ℕ) (k : ℕ) → k ≡ length xs → take k (pad n xs) ≡ xs
unfolding padded
pad_used n xs k e = rw e (take-append_seam xs (replicate (n - length xs) 0))

module _ (checked : Checked) (ring : ℕ → Float) (points threshold : ℕ) (searchable : Searchable checked ring points) (bytes work : List ℕ) (n : ℕ) (b w : List ℕ)
    (built : tree_built_by checked ring points threshold bytes work ≡ (Ok (Some n), b, w)) where
  is : Built checked ring points bytes work n b w
  is = built_is checked ring points bytes work n b w threshold built

  few : points ≤ 4097
  few = searchable.few is.sound

  plain : Numbered ring points
  plain = searchable.plain is.sound

  -- the used part is the bytes of the ring's tree
  pub used : take n b ≡ tree_bytes ring points
  used = ap (take n) is.room ∙ pad_used (length bytes) (tree_bytes ring points) n is.size

  -- what is found in the bytes
  abbrev pub found : Float → List ℕ
  found y = (searched (take n b) ring (segments points) y (ring_box ring points)).0

  of_tree : (y : Float) → found y ≡ (searched (tree_bytes ring points) ring (segments points) y (ring_box ring points)).0
  of_tree y = ap (λ (xs : List ℕ). (searched xs ring (segments points) y (ring_box ring points)).0) used

  -- each segment of the ring whose own closed height range holds y once, and no other number
  pub finds_each_once : (y : Float) (k : ℕ) → count k (found y) ≡ bit (ltb k (segments points) && holds_height (side_at ring k) y)
  finds_each_once y k = ap (count k) (of_tree y) ∙ tree_lists_once ring points y few plain k

  -- just what a scan finds, and as many
  pub finds_as_scan : (y : Float) (k : ℕ) → count k (found y) ≡ count k (meeting ring points y)
  finds_as_scan y k = ap (count k) (of_tree y) ∙ tree_lists ring points y few plain k

  pub finds_as_many : (y : Float) → length (found y) ≡ length (meeting ring points y)
  finds_as_many y = ap length (of_tree y) ∙ tree_lists_length ring points y few plain

  -- in node order
  pub finds_in_order : (y : Float) → found y ≡ those (λ i. holds_height (side_at ring i) y) (in_order (tree_of ring points))
  finds_in_order y = of_tree y ∙ (tree_found ring points y few plain).0

  -- The list call gives just these, in the room or refused for want of it. `ends 0` says only that nothing is refused: the answer is the same at
  -- any place.
  pub lists_all_built : (y : Float) (room : List ℕ) → finite y ≡ true
      → tree_listed_by checked ring points (take n b) y room ≡ answered (length room) (found y, ends 0)
  lists_all_built y room f =
      ap (λ (xs : List ℕ). tree_listed_by checked ring points xs y room) used
      ∙ lists_all checked ring points searchable is.sound y room f
      ∙ ap (λ (xs : List ℕ). answered (length room) (xs, ends 0)) (sym (finds_in_order y))

  -- the ring test is the scan's, for every point and both edge rules
  pub tests_built_as_scan : (p : Point) (edge : Bool)
      → tree_tested_by checked ring points (take n b) p edge ≡ scan_test ring points p edge
  tests_built_as_scan p edge = ap (λ (xs : List ℕ). tree_tested_by checked ring points xs p edge) used ∙ tests_as_scan checked ring points searchable is.sound p edge

  -- and so what the scan's own call answers
  pub tests_built_as_scanned : (p : Point) (edge : Bool)
      → tree_tested_by checked ring points (take n b) p edge ≡ scan_tested_by checked ring points p edge
  tests_built_as_scanned p edge = tests_built_as_scan p edge ∙ sym (tested_checked checked ring points p edge is.sound)
