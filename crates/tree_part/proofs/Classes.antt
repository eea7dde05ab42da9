-- The classes are the five ways: what is lifted of a marked run are its stayers and those that go to each quadrant. Assumes nothing.
use Rattle.std.specs.Prelude.{Option, Some, None}
use Prim.Native.Nat.{ℕ, zero, suc, ◌/◌, ◌%◌, ◌≤◌, ◌<◌}
use mathlib.Core.Path.{◌≡◌, refl, sym, ap, ap₂, ◌∙◌}
use mathlib.Core.List.{List, [], ◌∷◌, map}
use mathlib.Core.Bool.{Bool, true, false, not}
use native.Mathlib.Omega.{arith}
use lib.Dec.{eqb}
use lib.ListN.{length, length-append, length-map}
use lib.Ieee.{Float, lt}
use Rattle.boxes.specs.declared.Rect.{Rect}
use Rattle.boxes.specs.Quads.{quadrant, mid_x, mid_y}
use Rattle.rings.specs.Ring.{side_at}
use Rattle.room.specs.Numbers.{cons_if}
use Rattle.tree.specs.Tree.{those, goes_to, is_stayer, choice, stayers, goers}
use Rattle.tree.specs.All.{All}
use Rattle.tree.proofs.Share.{length_shares}
use Rattle.boxes.specs.Segments.{box_of}
use Rattle.tree_part.specs.Part.{Readable, shares_of, parts_of}
use Rattle.tree_part.specs.Inner.Halves.{class_of_of, marked, lower, of_class, classes, class_counts}

pub class_small : (way : Option ℕ) → class_of_of way ≤ 4
class_small None = omega arith
class_small (Some zero) = omega arith
class_small (Some (suc zero)) = omega arith
class_small (Some (suc (suc zero))) = omega arith
class_small (Some (suc (suc (suc q)))) = omega arith

-- a class is told by its number
abbrev Told : ℕ → (Option ℕ → Bool) → Option ℕ → Type 0
Told k t way = eqb (class_of_of way) k ≡ t way

each_told : (w e s n : Bool)
    → Told 0 is_stayer (quadrant w e s n) × Told 1 (goes_to 0) (quadrant w e s n) × Told 2 (goes_to 1) (quadrant w e s n)
    × Told 3 (goes_to 2) (quadrant w e s n) × Told 4 (goes_to 3) (quadrant w e s n)
each_told true e true n = (refl, refl, refl, refl, refl)
each_told true e false true = (refl, refl, refl, refl, refl)
each_told true e false false = (refl, refl, refl, refl, refl)
each_told false true true n = (refl, refl, refl, refl, refl)
each_told false true false true = (refl, refl, refl, refl, refl)
each_told false true false false = (refl, refl, refl, refl, refl)
each_told false false s n = (refl, refl, refl, refl, refl)

module _ (ring : ℕ → Float) (box : Rect) where
  told : (i : ℕ)
      → Told 0 is_stayer (choice ring box i) × Told 1 (goes_to 0) (choice ring box i) × Told 2 (goes_to 1) (choice ring box i)
      × Told 3 (goes_to 2) (choice ring box i) × Told 4 (goes_to 3) (choice ring box i)
  told i =
      let r = box_of (side_at ring i) in
      each_told (lt r.max.x (mid_x box)) (not (lt r.min.x (mid_x box))) (lt r.max.y (mid_y box)) (not (lt r.min.y (mid_y box)))

  -- the run that is marked, in its lower halves
  abbrev marks : List ℕ → List ℕ
  marks xs = map lower (map (marked ring box) xs)

  mark_class : (i : ℕ) → i < 4096 → lower (marked ring box i) / 4096 ≡ class_of_of (choice ring box i)
  unfolding marked
  mark_class i h = omega (arith, class_small (choice ring box i))

  mark_number : (i : ℕ) → i < 4096 → lower (marked ring box i) % 4096 ≡ i
  unfolding marked
  mark_number i h = omega (arith, class_small (choice ring box i))

  of_marks : (long k : ℕ) (t : Option ℕ → Bool) → ((i : ℕ) → Told k t (choice ring box i)) → (xs : List ℕ) → All (Readable long) xs
      → of_class k (marks xs) ≡ those (λ i. t (choice ring box i)) xs
  unfolding of_class those All
  of_marks long k t way [] a = refl
  of_marks long k t way (x ∷ xs) a =
      rw (mark_class x a.0.1, mark_number x a.0.1)
      (ap₂ (λ (b : Bool) (ys : List ℕ). cons_if b x ys) (way x) (of_marks long k t way xs a.1))

  -- nothing is lost, and nothing comes twice
  pub parts_length : (xs : List ℕ) → length (parts_of ring box xs) ≡ length xs
  unfolding parts_of
  parts_length xs = simp length-append (omega (arith, length_shares ring box xs))

  module _ (long : ℕ) (xs : List ℕ) (a : All (Readable long) xs) where
    own : of_class 0 (marks xs) ≡ stayers ring box xs
    own = of_marks long 0 is_stayer (λ i. (told i).0) xs a

    nw : of_class 1 (marks xs) ≡ goers ring box 0 xs
    nw = of_marks long 1 (goes_to 0) (λ i. (told i).1) xs a

    ne : of_class 2 (marks xs) ≡ goers ring box 1 xs
    ne = of_marks long 2 (goes_to 1) (λ i. (told i).2) xs a

    sw : of_class 3 (marks xs) ≡ goers ring box 2 xs
    sw = of_marks long 3 (goes_to 2) (λ i. (told i).3) xs a

    se : of_class 4 (marks xs) ≡ goers ring box 3 xs
    se = of_marks long 4 (goes_to 3) (λ i. (told i).4) xs a

    pub classes_parts : classes (marks xs) ≡ parts_of ring box xs
    unfolding classes parts_of
    classes_parts = rw (own, nw, ne, sw, se)

    pub counts_shares : class_counts (marks xs) ≡ shares_of ring box xs
    unfolding class_counts shares_of
    counts_shares = rw (own, nw, ne, sw, se)

    pub classes_fill : length (classes (marks xs)) ≡ length (map (marked ring box) xs)
    classes_fill = ap length classes_parts ∙ parts_length xs ∙ sym (length-map xs (marked ring box))
