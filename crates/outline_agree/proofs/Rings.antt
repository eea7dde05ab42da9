-- Demand 3 for one ring: whichever of its own indexes is read, the ring test is that of the segments whose own height range holds the point's
-- height. And the reading of rings by tests that agree. Assumes nothing.
use Rattle.std.specs.Prelude.{Ok}
use mathlib.Core.Path.{◌≡◌, refl, sym, ap, ap₂, ◌∙◌}
use mathlib.Core.Bool.{Bool, true, false, cond, ◌&&◌}
use mathlib.Core.List.{List}
use Prim.Native.Nat.{ℕ, zero, suc, ◌+◌, ◌-◌, ◌*◌, ◌≤◌, ◌<◌}
use native.Mathlib.Omega.{arith}
use lib.ListN.{drop}
use lib.Seq.{get_or-take, get_or-drop}
use lib.IntN.{ℤ, pos}
use lib.Ieee.Scale.{finite}
use Rattle.answers.specs.Answers.{Answer}
use Rattle.answers.specs.Answers.{said}
use Rattle.boxes.specs.declared.Point.{Point}
use Rattle.rings.specs.Ring.{wide, segments, meeting}
use Rattle.rings.specs.I32s.{I32s}
use Rattle.rings.specs.Checks.{ring_checked}
use Rattle.cast_test.specs.Test.{test_of, scan_of}
use Rattle.cast_test.proofs.Scan.{scan_meeting}
use Rattle.stripes_find.specs.Search.{searched as stripesSearched}
use Rattle.stripes_test.specs.Test.{verdict as stripesVerdict}
use Rattle.tree.specs.Tree.{tree_of, packed, ring_box}
use Rattle.tree.specs.Search.{searched as treeSearched}
use Rattle.tree.proofs.Searchable.{stored}
use Rattle.tree_find.specs.Find.{verdict as treeVerdict}
use Rattle.tree_find.proofs.Answers.{tested_sound}
use Rattle.tree_find.proofs.Demand.{tests_as_scan}
use Rattle.outline_check.specs.Outline.{rings, size_at, start_of, ring_of}
use Rattle.outline_check.specs.Inner.Counted.{Counted}
use Rattle.outline_check.proofs.Starts.{part_within, ring_length}
use Rattle.outline_ring.specs.RingIndex.{Indexes, has_stripes, has_tree, least_of, height_of, stripes_of, list_of, ring_asked}
use Rattle.outline_ring.proofs.Ways.{by_stripes_lem, by_tree_lem, by_scan_lem, stripes_read, tree_read}
use Rattle.outline_ask.specs.Inside.{after_exterior, after_hole, holes_from, through_rings}
use Rattle.outline_agree.specs.Own.{OwnStripes, OwnIndex}
use Rattle.outline_agree.proofs.Lists.{stripes_list}

-- ---- one ring
module _ (x : Indexes) (k : ℕ) (ring : List ℤ) (points : ℕ) (sound : ring_checked ring points ≡ Ok tt) (nums : I32s ring) (own : OwnIndex x k (wide ring) points)
    (p : Point) (edge : Bool) (fit : (finite p.x && finite p.y) ≡ true) where
  -- the scan's
  meeting_scan : said (test_of (wide ring) p edge (meeting (wide ring) points p.y)) ≡ said (scan_of (wide ring) (segments points) p edge)
  unfolding meeting
  meeting_scan = refl

  stripes_scan : OwnStripes x k (wide ring) (segments points)
      → stripesVerdict (wide ring) p edge (stripesSearched (wide ring) (segments points) (least_of x.spans k) (height_of x.spans k) (stripes_of x.table x.stripes k) (list_of x.table x.list k) p.y)
      ≡ said (scan_of (wide ring) (segments points) p edge)
  stripes_scan o = ap (stripesVerdict (wide ring) p edge) (stripes_list ring points p.y sound x k nums o) ∙ meeting_scan

  tree_scan : treeVerdict (wide ring) p edge (treeSearched (packed (tree_of (wide ring) points)) (wide ring) (segments points) p.y (ring_box (wide ring) points)) ≡ said (scan_of (wide ring) (segments points) p edge)
  tree_scan =
      tested_sound (ring_checked ring points) (wide ring) points (packed (tree_of (wide ring) points)) p edge sound fit
      ∙ tests_as_scan (ring_checked ring points) (wide ring) points (stored ring points) sound p edge
      ∙ sym (scan_meeting (wide ring) points p edge fit)

  pub asked_as_scan : ring_asked x k (ring_box (wide ring) points) (wide ring) (segments points) p edge ≡ said (scan_of (wide ring) (segments points) p edge)
  asked_as_scan = go (has_stripes x.table k) (has_tree x.table k) refl refl
    where
      go : (s t : Bool) → has_stripes x.table k ≡ s → has_tree x.table k ≡ t
          → ring_asked x k (ring_box (wide ring) points) (wide ring) (segments points) p edge ≡ said (scan_of (wide ring) (segments points) p edge)
      go true t e f =
          by_stripes_lem x k (ring_box (wide ring) points) (wide ring) (segments points) p edge e
          ∙ stripes_read x k (ring_box (wide ring) points) (wide ring) (segments points) p edge (own.stripes e).lie
          ∙ stripes_scan (own.stripes e)
      go false true e f =
          by_tree_lem x k (ring_box (wide ring) points) (wide ring) (segments points) p edge e f
          ∙ tree_read x k (ring_box (wide ring) points) (wide ring) (segments points) p edge (own.lies f)
          ∙ ap (λ (bytes : List ℕ). treeVerdict (wide ring) p edge (treeSearched bytes (wide ring) (segments points) p.y (ring_box (wide ring) points))) (own.tree f)
          ∙ tree_scan
      go false false e f = by_scan_lem x k (ring_box (wide ring) points) (wide ring) (segments points) p edge e f

-- a ring of i32 coordinates is one of i32 numbers
pub ring_nums : (sizes : List ℕ) (coords : List ℤ) (k : ℕ) → Counted sizes coords → k < rings sizes → I32s coords → I32s (ring_of sizes coords k)
unfolding ring_of
ring_nums sizes coords k s h nums i l =
    let n = 2 * size_at sizes k in
    let at = 2 * start_of sizes k in
    let m : i < n = omega (arith, ring_length s k h) in
    rw (get_or-take n (drop at coords) i (pos 0) m ∙ get_or-drop at coords i (pos 0)) (nums (at + i) (omega (arith, part_within s k h)))

-- ---- all rings, by tests that agree
holes_same : (f g : ℕ → Answer) (m k : ℕ) → ((j : ℕ) → j < k + m → f j ≡ g j) → holes_from f m k ≡ holes_from g m k
unfolding holes_from
holes_same f g zero k h = refl
holes_same f g (suc m) k h = ap₂ after_hole (h k (omega arith)) (holes_same f g m (k + 1) (λ j l. h j (omega arith)))

pub rings_same : (a b : Bool) (f g : ℕ → Bool → Answer) (n : ℕ) (edge : Bool) → 1 ≤ n → a ≡ b → ((k : ℕ) → k < n → (e : Bool) → f k e ≡ g k e)
    → through_rings a f n edge ≡ through_rings b g n edge
unfolding through_rings
rings_same a b f g n edge some e h =
    ap₂ (λ (c : Bool) (r : Answer). cond c r (Ok false)) e
    (ap₂ after_exterior (h 0 some edge) (holes_same (λ k. f k false) (λ k. g k false) (n - 1) 1 (λ j l. h j (omega arith) false)))
