-- The ring test in one pass: what is seen so far and the segments to come make the answer. Assumes nothing.
use Rattle.std.specs.declared.ops.ControlFlow.TheVariants.{Continue, Break}
use mathlib.Core.Path.{◌≡◌, refl}
use mathlib.Core.Bool.{Bool, true, false, not, cond}
use mathlib.Core.List.{List, []}
use Prim.Native.Nat.{ℕ}
use lib.Ieee.{Float}
use Rattle.room.specs.Numbers.{cons_if}
use Rattle.boxes.specs.declared.Point.{Point}
use Rattle.rays.specs.declared.RaycastResult.{RaycastResult}
use Rattle.rays.specs.declared.RaycastResult.TheVariants.{On, Inside, Neither}
use Rattle.rings.specs.Ring.{side_at, holds_height}
use Rattle.rings.specs.RingTest.{test_from}
use Rattle.cast_test.specs.Test.{is_on, is_inside, cast_at, test_of}
use Rattle.cast_test.specs.Inner.Steps.{Seen, seen_next, step_of}

module _ (ring : ℕ → Float) (p : Point) (edge : Bool) where
  -- the answer, from what is seen so far, and the numbers found to come
  unfoldable pub settled : Seen → List ℕ → Bool
  settled (Break _) xs = edge
  settled (Continue inside) xs = test_from (λ i. is_on (cast_at ring i p)) (λ i. is_inside (cast_at ring i p)) edge inside xs

  by_cast : (r : RaycastResult) (b : Bool) (xs : List ℕ)
      → cond (is_on r) edge (test_from (λ i. is_on (cast_at ring i p)) (λ i. is_inside (cast_at ring i p)) edge (cond (is_inside r) (not b) b) xs)
      ≡ settled (seen_next r b) xs
  unfolding settled
  by_cast On b xs = refl
  by_cast Inside b xs = refl
  by_cast Neither b xs = refl

  pub settled_step : (s : Seen) (i : ℕ) (xs : List ℕ) → settled s (cons_if (holds_height (side_at ring i) p.y) i xs) ≡ settled (step_of ring i p s) xs
  unfolding settled step_of test_from
  settled_step (Break inside) i xs = refl
  settled_step (Continue inside) i xs = go (holds_height (side_at ring i) p.y)
    where
      go : (h : Bool) → settled (Continue inside) (cons_if h i xs) ≡ settled (cond h (seen_next (cast_at ring i p) inside) (Continue inside)) xs
      go false = refl
      go true = by_cast (cast_at ring i p) inside xs

  pub settled_on : (inside : Bool) (xs : List ℕ) → settled (Break inside) xs ≡ edge
  unfolding settled
  settled_on inside xs = refl

  pub settled_done : (inside : Bool) → settled (Continue inside) [] ≡ inside
  unfolding settled test_from
  settled_done inside = refl

  -- at the start nothing is seen
  pub settled_none : (xs : List ℕ) → settled (Continue false) xs ≡ test_of ring p edge xs
  unfolding settled
  settled_none xs = refl
