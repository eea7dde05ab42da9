-- The ring test of the numbers of a stripe, in one pass. Assumes nothing.
use Rattle.std.specs.declared.ops.ControlFlow.TheVariants.{Continue, Break}
use mathlib.Core.Path.{◌≡◌, refl, sym, ap, ◌∙◌}
use mathlib.Core.Bool.{Bool, false}
use mathlib.Core.List.{List, []}
use Prim.Native.Nat.{ℕ, ◌+◌, ◌≤◌, ◌<◌}
use lib.ListN.{length, get_or}
use lib.Seq.{slice}
use lib.Ieee.{Float}
use Rattle.room.specs.Numbers.{cons_if}
use Rattle.boxes.specs.declared.Point.{Point}
use Rattle.rings.specs.Ring.{side_at, holds_height}
use Rattle.cast_test.specs.Test.{test_of}
use Rattle.cast_test.specs.Inner.Steps.{Seen, step_of}
use Rattle.cast_test.proofs.Steps.{settled, settled_step, settled_on, settled_done, settled_none}
use Rattle.stripes_find.specs.Search.{complete, damaged_at, found_in, end_in}
use Rattle.stripes_find.proofs.Reading.{found_done, end_done, found_more, end_more, end_broken}

-- the answer once every number is read
abbrev pub ended : Seen → Bool → Bool
ended (Break inside) edge = edge
ended (Continue inside) edge = inside

settled_end : (ring : ℕ → Float) (p : Point) (edge : Bool) (s : Seen) → settled ring p edge s [] ≡ ended s edge
settled_end ring p edge (Break inside) = settled_on ring p edge inside []
settled_end ring p edge (Continue inside) = settled_done ring p edge inside

module _ (ring : ℕ → Float) (p : Point) (edge : Bool) (n : ℕ) (list : List ℕ) (start past : ℕ) where
  pub record Testing (s : Seen) (at : ℕ) : Type 0 where
    pub same : settled ring p edge s (found_in n (λ i. holds_height (side_at ring i) p.y) (slice at past list))
        ≡ test_of ring p edge (found_in n (λ i. holds_height (side_at ring i) p.y) (slice start past list))
    pub ends : end_in n at (slice at past list) ≡ end_in n start (slice start past list)

  pub testing_start : Testing (Continue false) start
  testing_start = record { same = settled_none ring p edge _; ends = refl }

  module _ (s : Seen) (at x : ℕ) (l : Testing s at) (h : at < past) (b : past ≤ length list) (is : x ≡ get_or list at 0) where
    pub testing_more : x < n → Testing (step_of ring x p s) (at + 1)
    testing_more k =
        let t : ℕ → Bool = λ i. holds_height (side_at ring i) p.y in
        let e : found_in n t (slice at past list) ≡ cons_if (t x) x (found_in n t (slice (at + 1) past list)) = rw is (found_more n t list past at h b (rw (← is) k)) in
        record {
          same = sym (settled_step ring p edge s x (found_in n t (slice (at + 1) past list))) ∙ sym (ap (settled ring p edge s) e) ∙ l.same;
          ends = sym (end_more n t list past at h b (rw (← is) k)) ∙ l.ends;
        }

    pub testing_broken : n ≤ x → end_in n start (slice start past list) ≡ damaged_at at
    testing_broken k = sym l.ends ∙ end_broken n (λ i. holds_height (side_at ring i) p.y) list past at h b (rw (← is) k)

  pub testing_done : (s : Seen) (at : ℕ) → Testing s at → at ≡ past
      → (ended s edge ≡ test_of ring p edge (found_in n (λ i. holds_height (side_at ring i) p.y) (slice start past list)))
      × (end_in n start (slice start past list) ≡ complete)
  testing_done s at l e =
      let t : ℕ → Bool = λ i. holds_height (side_at ring i) p.y in
      let f : found_in n t (slice at past list) ≡ [] = rw e (found_done n t list past) in
      (sym (settled_end ring p edge s) ∙ sym (ap (settled ring p edge s) f) ∙ l.same, sym l.ends ∙ rw e (end_done n t list past))
