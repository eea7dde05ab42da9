-- Demand 3 for lists: the scan, a ring's own stripes and a ring's own tree list the same segments, exactly those whose own closed height range holds
-- y, each once. Assumes nothing.
use Rattle.std.specs.Prelude.{Ok}
use mathlib.Core.Path.{◌≡◌}
use mathlib.Core.List.{List, [], append-nil}
use mathlib.Core.Bool.{true}
use Prim.Native.Nat.{ℕ, ◌≤◌, ◌<◌}
use native.Mathlib.Omega.{arith}
use lib.IntN.{ℤ}
use lib.Ieee.{Float}
use lib.Ieee.Scale.{finite}
use Rattle.room.specs.Numbers.{bit, count}
use Rattle.room.proofs.Count.{count_up_to, count_up_to_past}
use Rattle.rings.specs.Ring.{wide, side_at, segments, holds_height, meeting}
use Rattle.rings.specs.I32s.{I32s}
use Rattle.rings.specs.Checks.{ring_checked}
use Rattle.rings.specs.Listing.{listed_in, scanned_by, scanned}
use Rattle.rings.proofs.Checks.{sound_ring}
use Rattle.stripes_count.specs.Count.{stripe_count}
use Rattle.stripes_count.proofs.Least.{some_stripes}
use Rattle.stripes_index.specs.Index.{list_of as entered}
use Rattle.stripes_build.specs.Build.{crosses_in}
use Rattle.stripes_find.specs.Search.{complete, searched as stripesSearched}
use Rattle.stripes_agree.proofs.Demand.{found_all}
use Rattle.tree.specs.Tree.{tree_of, packed, ring_box}
use Rattle.tree.specs.Search.{searched as treeSearched}
use Rattle.tree.proofs.Searchable.{stored}
use Rattle.tree.proofs.Demand.{Whole, tree_found, tree_lists}
use Rattle.outline_ring.specs.RingIndex.{Indexes, least_of, height_of, stripes_of, list_of, bytes_of}
use Rattle.outline_agree.specs.Own.{OwnStripes}

-- `meeting` is all of them, each once
module _ (ring : ℕ → Float) (points : ℕ) (y : Float) where
  pub each_once : (i : ℕ) → i < segments points → count i (meeting ring points y) ≡ bit (holds_height (side_at ring i) y)
  unfolding meeting
  each_once i h = count_up_to (λ i. holds_height (side_at ring i) y) i (segments points) 0 (omega arith) h

  pub no_other : (i : ℕ) → segments points ≤ i → count i (meeting ring points y) ≡ 0
  unfolding meeting
  no_other i h = count_up_to_past (λ i. holds_height (side_at ring i) y) i (segments points) 0 h

module _ (ring : List ℤ) (points : ℕ) (y : Float) (sound : ring_checked ring points ≡ Ok tt) where
  -- the scan lists it by rising number
  pub scan_lists : (out : List ℕ) → finite y ≡ true → scanned ring points y out ≡ listed_in (meeting (wide ring) points y) out
  unfolding scanned_by
  scan_lists out f = rw (sound, f)

  module _ (x : Indexes) (k : ℕ) where
    -- and so do the stripes
    pub stripes_list : I32s ring → OwnStripes x k (wide ring) (segments points)
        → stripesSearched (wide ring) (segments points) (least_of x.spans k) (height_of x.spans k) (stripes_of x.table x.stripes k) (list_of x.table x.list k) y
        ≡ record { found = meeting (wide ring) points y; ending = complete }
    unfolding meeting
    stripes_list nums o =
        let n = segments points in
        let a = sound_ring ring points sound in
        rw (o.from, o.tall, o.table, o.numbers, ← (append-nil (entered (crosses_in (wide ring) n) n (stripe_count (wide ring) n))))
        (found_all ring n (stripe_count (wide ring) n) (omega (arith, a.enough, a.sizes)) nums (omega (arith, some_stripes (wide ring) n)) o.few [] y)

    -- the tree lists it in the order of its nodes
    pub tree_list_lem : bytes_of x.table x.bytes k ≡ packed (tree_of (wide ring) points)
        → let found = treeSearched (bytes_of x.table x.bytes k) (wide ring) (segments points) y (ring_box (wide ring) points) in
        Whole found.1 × ((i : ℕ) → count i found.0 ≡ count i (meeting (wide ring) points y))
    tree_list_lem e =
        let few = (stored ring points).few sound in
        let plain = (stored ring points).plain sound in
        rw e ((tree_found (wide ring) points y few plain).1, tree_lists (wide ring) points y few plain)
