-- The ways through the ring test of a ring of an outline. Assumes nothing.
use mathlib.Core.Path.{◌≡◌}
use mathlib.Core.Bool.{Bool, true, false}
use Prim.Native.Nat.{ℕ}
use lib.Ieee.{Float}
use Rattle.answers.specs.Answers.{said}
use Rattle.boxes.specs.declared.Point.{Point}
use Rattle.boxes.specs.declared.Rect.{Rect}
use Rattle.cast_test.specs.Test.{scan_of}
use Rattle.stripes_find.specs.Search.{searched as stripesSearched}
use Rattle.stripes_test.specs.Test.{verdict as stripesVerdict}
use Rattle.tree.specs.Search.{searched as treeSearched}
use Rattle.tree_find.specs.Find.{verdict as treeVerdict}
use Rattle.outline_ring.specs.RingIndex.{Indexes, has_stripes, has_tree, least_of, height_of, stripes_of, list_of, bytes_of, stripes_lie, tree_lies, stripes_asked, tree_asked, ring_asked}

module _ (x : Indexes) (k : ℕ) (box : Rect) (ring : ℕ → Float) (n : ℕ) (p : Point) (edge : Bool) where
  pub by_stripes_lem : has_stripes x.table k ≡ true → ring_asked x k box ring n p edge ≡ stripes_asked x k ring n p edge
  unfolding ring_asked
  by_stripes_lem e = rw e

  pub by_tree_lem : has_stripes x.table k ≡ false → has_tree x.table k ≡ true → ring_asked x k box ring n p edge ≡ tree_asked x k box ring n p edge
  unfolding ring_asked
  by_tree_lem e f = rw (e, f)

  -- each where what it reads lies in the rooms
  pub stripes_read : stripes_lie x k ≡ true
      → stripes_asked x k ring n p edge
      ≡ stripesVerdict ring p edge (stripesSearched ring n (least_of x.spans k) (height_of x.spans k) (stripes_of x.table x.stripes k) (list_of x.table x.list k) p.y)
  stripes_read e = rw e

  pub tree_read : tree_lies x k ≡ true → tree_asked x k box ring n p edge ≡ treeVerdict ring p edge (treeSearched (bytes_of x.table x.bytes k) ring n p.y box)
  tree_read e = rw e

  pub by_scan_lem : has_stripes x.table k ≡ false → has_tree x.table k ≡ false → ring_asked x k box ring n p edge ≡ said (scan_of ring n p edge)
  unfolding ring_asked
  by_scan_lem e f = rw (e, f)
