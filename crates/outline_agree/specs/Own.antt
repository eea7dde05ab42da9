-- The index that is lent for a ring is the ring's own: what building it from the ring leaves. A ring may have none, stripes, a tree, or both. It is given
-- by its numbers as floats, from which an index is built.
use Rattle.std.specs.Prelude.{◌≡◌, true, List, ℕ, ◌≤◌, ◌<◌, ℤ, Float}
use Rattle.rings.specs.Ring.{wide, segments}
use Rattle.stripes_count.specs.Count.{stripe_count}
use Rattle.stripes_index.specs.Index.{least_y, height_y, table_of, list_of as entered}
use Rattle.stripes_build.specs.Build.{crosses_in}
use Rattle.tree.specs.Tree.{tree_of, packed}
use Rattle.outline_check.specs.Outline.{rings, size_at, ring_of}
use Rattle.outline_ring.specs.RingIndex.{Indexes, has_stripes, has_tree, least_of, height_of, stripes_of, list_of, bytes_of, stripes_lie, tree_lies}

-- ring k's stripes, in a ring of n segments; all of them lie in the rooms
pub record OwnStripes (x : Indexes) (k : ℕ) (ring : ℕ → Float) (n : ℕ) : Type 0 where
  pub lie : stripes_lie x k ≡ true
  pub few : stripe_count ring n ≤ 65536
  pub from : least_of x.spans k ≡ least_y ring n
  pub tall : height_of x.spans k ≡ height_y ring n
  pub table : stripes_of x.table x.stripes k ≡ table_of (crosses_in ring n) n (stripe_count ring n)
  pub numbers : list_of x.table x.list k ≡ entered (crosses_in ring n) n (stripe_count ring n)

pub record OwnIndex (x : Indexes) (k : ℕ) (ring : ℕ → Float) (points : ℕ) : Type 0 where
  pub stripes : has_stripes x.table k ≡ true → OwnStripes x k ring (segments points)
  pub lies : has_tree x.table k ≡ true → tree_lies x k ≡ true
  pub tree : has_tree x.table k ≡ true → bytes_of x.table x.bytes k ≡ packed (tree_of ring points)

-- so for each ring of an outline
abbrev pub OwnIndexes : Indexes → List ℕ → List ℤ → Type 0
OwnIndexes x sizes coords = (k : ℕ) → k < rings sizes → OwnIndex x k (wide (ring_of sizes coords k)) (size_at sizes k)
