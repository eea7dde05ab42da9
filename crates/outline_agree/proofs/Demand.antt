-- Demand 3 for an outline: with the record of its own boxes, and for each ring none, stripes, a tree or both, each built from that ring, the inside
-- question has one and the same answer, which is that of the segments alone. Assumes nothing.
use Rattle.std.specs.Prelude.{Ok, Err}
use mathlib.Core.Path.{◌≡◌, refl, sym, ap, ◌∙◌}
use mathlib.Core.Bool.{Bool, true, ◌&&◌}
use mathlib.Core.List.{List, ◌++◌}
use Prim.Native.Nat.{ℕ, ◌*◌, ◌<◌}
use native.Mathlib.Omega.{arith}
use lib.ListN.{length, length-append}
use lib.IntN.{ℤ}
use lib.Ieee.Scale.{finite}
use borrow.Author.Tests.{le-leb}
use Rattle.boxes.specs.declared.Point.{Point}
use Rattle.boxes.specs.declared.Rect.{Rect}
use Rattle.boxes.specs.Boxes.{holds}
use Rattle.rings.specs.Checks.{Checked}
use Rattle.rings.specs.Ring.{wide, segments}
use Rattle.rings.specs.I32s.{I32s}
use Rattle.rings.specs.Checks.{when_sound}
use Rattle.tree.specs.Tree.{ring_box}
use Rattle.outline_check.specs.declared.Outline.{Outline}
use Rattle.outline_check.specs.Outline.{rings, size_at, ring_of}
use Rattle.outline_check.specs.Rules.{outline_checked}
use Rattle.outline_check.proofs.Sound.{Passed, sound_outline, ring_sound}
use Rattle.outline_record.specs.Record.{boxes_of, rect_at, grid_box_holds}
use Rattle.outline_record.proofs.Boxes.{boxes_length}
use Rattle.outline_record.proofs.Read.{boxes_at, rect_in}
use Rattle.outline_ring.specs.RingIndex.{Indexes, ring_asked}
use Rattle.outline_ask.specs.declared.Query.{Query}
use Rattle.outline_ask.specs.declared.Query.TheVariants.{Outside, Float as FloatPlace, Grid as WholePlace}
use Rattle.outline_ask.specs.Query.{scaled_query}
use Rattle.outline_ask.specs.Inside.{float_test, grid_test, asked_at, record_fits, inside_of}
use Rattle.outline_ask.proofs.Queries.{float_finite}
use Rattle.outline_agree.specs.Plain.{plain_test, in_exterior, grid_in_exterior, plain_asked, plain_inside}
use Rattle.outline_agree.specs.Own.{OwnIndexes}
use Rattle.outline_agree.proofs.Rings.{asked_as_scan, ring_nums, rings_same}

module _ (outline : Outline) (sizes : List ℕ) (coords : List ℤ) (nums : I32s coords) (rest : List ℤ) (x : Indexes) (own : OwnIndexes x sizes coords)
    (p : Point) (edge : Bool) where
  abbrev boxes : List ℤ
  boxes = boxes_of sizes coords ++ rest

  fits : record_fits sizes boxes ≡ true
  fits = le-leb (4 * rings sizes) (length boxes) (omega (arith, boxes_length sizes coords (rings sizes), length-append (boxes_of sizes coords) rest))

  module _ (sound : outline_checked outline.scale sizes coords ≡ Ok tt) where
    passed : Passed outline.scale sizes coords
    passed = (sound_outline true outline.scale sizes coords sound).1

    own_box : (k : ℕ) → k < rings sizes → rect_at boxes k ≡ ring_box (wide (ring_of sizes coords k)) (size_at sizes k)
    own_box k h = rect_in sizes coords nums passed.shaped.counted k h rest

    float_test_lem : (q : Point) → (finite q.x && finite q.y) ≡ true → (k : ℕ) → k < rings sizes → (e : Bool)
        → float_test sizes coords boxes x q k e ≡ plain_test sizes coords q k e
    float_test_lem q fit k h e =
        ap (λ (r : Rect). ring_asked x k r (wide (ring_of sizes coords k)) (segments (size_at sizes k)) q e) (own_box k h)
        ∙ asked_as_scan x k (ring_of sizes coords k) (size_at sizes k) (ring_sound sizes coords k passed.shaped h)
        (ring_nums sizes coords k passed.shaped.counted h nums) (own k h) q e fit

    grid_box : (px py : ℤ) → grid_box_holds boxes 0 px py ≡ grid_in_exterior sizes coords px py
    grid_box px py =
        let some = passed.shaped.counted.some in
        rw (
          boxes_at sizes coords (rings sizes) 0 0 rest some (omega arith),
          boxes_at sizes coords (rings sizes) 0 1 rest some (omega arith),
          boxes_at sizes coords (rings sizes) 0 2 rest some (omega arith),
          boxes_at sizes coords (rings sizes) 0 3 rest some (omega arith),
        )

    asked_same : (q : Query) → q ≡ scaled_query outline p → asked_at sizes coords boxes x edge q ≡ plain_asked sizes coords edge q
    asked_same Outside e = refl
    asked_same (FloatPlace px py) e =
        let q : Point = record { x = px; y = py } in
        let some = passed.shaped.counted.some in
        rings_same (holds (rect_at boxes 0) q) (in_exterior sizes coords q) (float_test sizes coords boxes x q) (plain_test sizes coords q) (rings sizes) edge some
        (ap (λ (r : Rect). holds r q) (own_box 0 some)) (float_test_lem q (float_finite outline p px py e))
    asked_same (WholePlace px py) e =
        rings_same (grid_box_holds boxes 0 px py) (grid_in_exterior sizes coords px py) (grid_test sizes coords px py) (grid_test sizes coords px py) (rings sizes) edge
        passed.shaped.counted.some (grid_box px py) (λ k h e. refl)

  -- the answer is that of the segments alone, refused or not
  pub demand_3 : inside_of outline sizes coords boxes x p edge ≡ plain_inside outline sizes coords p edge
  unfolding inside_of plain_inside
  demand_3 = rw fits (go (outline_checked outline.scale sizes coords) refl)
    where
      go : (c : Checked) → outline_checked outline.scale sizes coords ≡ c
          → when_sound c (asked_at sizes coords boxes x edge (scaled_query outline p)) ≡ when_sound c (plain_asked sizes coords edge (scaled_query outline p))
      go (Ok _) e = asked_same e (scaled_query outline p) refl
      go (Err why) e = refl

-- so any two choices of indexes, and any two rooms in which the record stands, give one answer
pub one_answer : (outline : Outline) (sizes : List ℕ) (coords : List ℤ) → I32s coords → (rest rest' : List ℤ) (x x' : Indexes)
    → OwnIndexes x sizes coords → OwnIndexes x' sizes coords → (p : Point) (edge : Bool)
    → inside_of outline sizes coords (boxes_of sizes coords ++ rest) x p edge ≡ inside_of outline sizes coords (boxes_of sizes coords ++ rest') x' p edge
one_answer outline sizes coords nums rest rest' x x' own own' p edge =
    demand_3 outline sizes coords nums rest x own p edge ∙ sym (demand_3 outline sizes coords nums rest' x' own' p edge)
