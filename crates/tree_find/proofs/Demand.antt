-- Demand 3 as the calls have it: on the bytes of a ring's own tree the list is the segments that hold the height, in node order, and the ring test is
-- that of the scan. Assumes nothing.
use Rattle.std.specs.Prelude.{Ok}
use Prim.Native.Nat.{ℕ}
use mathlib.Core.Path.{◌≡◌, refl, sym, ap, ◌∙◌}
use mathlib.Core.List.{List}
use mathlib.Core.Bool.{Bool, true, false, cond, ◌&&◌}
use lib.ListN.{length}
use lib.Ieee.{Float}
use lib.Ieee.Scale.{finite}
use Rattle.answers.specs.Answers.{said}
use Rattle.boxes.specs.declared.Point.{Point}
use Rattle.rings.specs.Checks.{Checked}
use Rattle.rings.specs.Ring.{side_at, holds_height, meeting}
use Rattle.cast_test.specs.Test.{cast_at, is_on, is_inside, test_of, scan_test, scan_tested_by}
use Rattle.cast_test.proofs.Scan.{tested_checked}
use Rattle.tree.specs.Tree.{those, in_order, packed, tree_of}
use Rattle.tree.specs.Search.{Found, ends, fails}
use Rattle.tree.proofs.AnyOrder.{any_order}
use Rattle.tree.proofs.Searchable.{Searchable}
use Rattle.tree.proofs.Demand.{Whole, tree_search, tree_found, tree_lists}
use Rattle.tree_find.specs.Find.{answered, tree_listed_by, verdict, tree_tested_by}
use Rattle.tree_find.proofs.Answers.{listed_sound, tested_sound, tested_unfit}

-- what a reading that refuses nothing is
whole : (f : Found) → Whole f.1 → (p : ℕ) × (f ≡ (f.0, ends p))
whole (xs, ends p) w = (p, refl)
whole (xs, fails why) w = absurd w

any_end : (n : ℕ) (xs : List ℕ) (p q : ℕ) → answered n (xs, ends p) ≡ answered n (xs, ends q)
unfolding answered
any_end n xs p q = refl

whole_verdict : (ring : ℕ → Float) (p : Point) (edge : Bool) (f : Found) → Whole f.1 → verdict ring p edge f ≡ said (test_of ring p edge f.0)
unfolding verdict
whole_verdict ring p edge (xs, ends q) w = refl
whole_verdict ring p edge (xs, fails why) w = absurd w

module _ (checked : Checked) (ring : ℕ → Float) (points : ℕ) (searchable : Searchable checked ring points) (sound : checked ≡ Ok tt) where
  -- The list call: the segments of the ring that hold y, in node order, in the room or refused for want of it. `ends 0` says only that nothing is
  -- refused: the answer is the same at any place.
  pub lists_all : (y : Float) (room : List ℕ) → finite y ≡ true
      → tree_listed_by checked ring points (packed (tree_of ring points)) y room
      ≡ answered (length room) (those (λ i. holds_height (side_at ring i) y) (in_order (tree_of ring points)), ends 0)
  lists_all y room f =
      let t = tree_found ring points y (searchable.few sound) (searchable.plain sound) in
      let w = whole (tree_search ring points y) t.1 in
      listed_sound checked ring points (packed (tree_of ring points)) y room sound f
      ∙ ap (answered (length room)) w.1
      ∙ ap (λ (xs : List ℕ). answered (length room) (xs, ends w.0)) t.0
      ∙ any_end (length room) _ w.0 0

  -- the ring test: the scan's, for every point and both edge rules
  pub tests_as_scan : (p : Point) (edge : Bool)
      → tree_tested_by checked ring points (packed (tree_of ring points)) p edge ≡ scan_test ring points p edge
  tests_as_scan p edge = go (finite p.x && finite p.y) refl
    where
      go : (b : Bool) → (finite p.x && finite p.y) ≡ b
          → tree_tested_by checked ring points (packed (tree_of ring points)) p edge ≡ cond b (said (test_of ring p edge (meeting ring points p.y))) (Ok false)
      go true e =
          let few = searchable.few sound in let plain = searchable.plain sound in
          sym (tested_sound checked ring points (packed (tree_of ring points)) p edge sound e)
          ∙ whole_verdict ring p edge (tree_search ring points p.y) (tree_found ring points p.y few plain).1
          ∙ ap said (any_order (λ i. is_on (cast_at ring i p)) (λ i. is_inside (cast_at ring i p)) edge (tree_search ring points p.y).0 (meeting ring points p.y) (tree_lists ring points p.y few plain) false)
      go false e = sym (tested_unfit checked ring points (packed (tree_of ring points)) p edge sound e)

  -- and so what the scan's own call answers
  pub tests_as_scanned : (p : Point) (edge : Bool)
      → tree_tested_by checked ring points (packed (tree_of ring points)) p edge ≡ scan_tested_by checked ring points p edge
  tests_as_scanned p edge = tests_as_scan p edge ∙ sym (tested_checked checked ring points p edge sound)
