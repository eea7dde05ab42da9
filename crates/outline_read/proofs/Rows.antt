-- What building the indexes of all rings puts into the rooms, as the ring test reads it: ring k's own row, span, stripes, list and bytes, whatever
-- the sizes of the rooms. Assumes nothing.
use Prim.Native.Nat.{ℕ, ◌+◌, ◌*◌, ◌/◌, ◌%◌, ◌≤◌, ◌<◌}
use mathlib.Core.Path.{◌≡◌, refl, sym, ap, ap₂, ◌∙◌}
use mathlib.Core.List.{List, []}
use mathlib.Core.Bool.{Bool, true, false, cond, ◌&&◌}
use native.Mathlib.Omega.{arith}
use lib.ListN.{length, get_or}
use lib.IntN.{ℤ}
use lib.Dec.{eqb}
use lib.Ieee.{Float}
use borrow.Author.Tests.{le-leb, leb-true}
use Rattle.room.specs.Numbers.{bit}
use Rattle.room.specs.Room.{pad}
use Rattle.rings.specs.Ring.{wide, segments}
use Rattle.stripes_count.specs.Count.{stripe_count}
use Rattle.stripes_index.specs.Index.{least_y, height_y, part_of, list_of as entriesListed}
use Rattle.stripes_index.proofs.Pairs.{pairs_length}
use Rattle.stripes_build.specs.Build.{crosses_in}
use Rattle.tree.specs.Tree.{tree_of, packed}
use Rattle.outline_check.specs.Outline.{rings, size_at, ring_of}
use Rattle.outline_ring.specs.RingIndex.{Indexes, lent, none, part, lies, has_stripes, has_tree, least_of, height_of, stripes_of, list_of, bytes_of, stripes_lie, tree_lies}
use Rattle.outline_table.specs.Row.{number}
use Rattle.outline_index.specs.declared.BuildOptions.{BuildOptions}
use Rattle.outline_index.specs.Pools.{pad_with}
use Rattle.outline_index.specs.Parts.{no_height, has_stripes as getsStripes, has_tree as getsTree, ring_stripes, ring_list, stripes_part, list_part, bytes_part, least_in, height_in, span_part, stripes_in, entries_in, few_stripes}
use Rattle.outline_index.proofs.Pools.{turn_like}
use Rattle.outline_build.specs.Indexes.{stripes_to, list_to, bytes_to, spans_to, row_at, rows_to}
use Rattle.outline_agree.specs.Own.{OwnIndex}
use Rattle.outline_read.proofs.Pools.{pool_part, pool_lies, pool_at}

-- which indexes the kinds tell
tells_stripes : (s t : Bool) → eqb ((bit s + 2 * bit t) % 2) 1 ≡ s
tells_stripes true true = refl
tells_stripes true false = refl
tells_stripes false true = refl
tells_stripes false false = refl

tells_tree : (s t : Bool) → eqb ((bit s + 2 * bit t) / 2 % 2) 1 ≡ t
tells_tree true true = refl
tells_tree true false = refl
tells_tree false true = refl
tells_tree false false = refl

-- the parts of one ring
module _ (options : BuildOptions) (ring : ℕ → Float) (points : ℕ) where
  stripes_long : 2 * stripes_in options ring points ≡ length (stripes_part options ring points)
  unfolding stripes_in stripes_part
  stripes_long = go (getsStripes options (segments points))
    where
      n : ℕ
      n = segments points

      go : (b : Bool) → 2 * cond b (stripe_count ring n) 0 ≡ length (cond b (ring_stripes ring n) [])
      go true = omega (arith, pairs_length (λ k. length (entriesListed (crosses_in ring n) n k)) (λ k. length (part_of (crosses_in ring n) n k)) (stripe_count ring n))
      go false = refl

  entries_long : entries_in options ring points ≡ length (list_part options ring points)
  unfolding entries_in
  entries_long = refl

  -- of a ring that gets stripes
  module _ (gets : getsStripes options (segments points) ≡ true) where
    gets_stripes : stripes_part options ring points ≡ ring_stripes ring (segments points)
    unfolding stripes_part
    gets_stripes = rw gets

    gets_list : list_part options ring points ≡ ring_list ring (segments points)
    unfolding list_part
    gets_list = rw gets

    gets_least : least_in options ring points ≡ least_y ring (segments points)
    unfolding least_in
    gets_least = rw gets

    gets_height : height_in options ring points ≡ height_y ring (segments points)
    unfolding height_in
    gets_height = rw gets

    gets_few : few_stripes options ring points ≡ true → stripe_count ring (segments points) ≤ 65536
    unfolding few_stripes
    gets_few e = leb-true (stripe_count ring (segments points)) 65536 (rw gets at e)

  gets_bytes : getsTree options (segments points) ≡ true → bytes_part options ring points ≡ packed (tree_of ring points)
  unfolding bytes_part
  gets_bytes gets = rw gets

module _ (options : BuildOptions) (sizes : List ℕ) (coords : List ℤ) where
  -- all rings' parts, in rooms of these sizes
  abbrev pub made : ℕ → ℕ → ℕ → ℕ → ℕ → Indexes
  made t sp s l b =
      lent (pad t (rows_to options sizes coords (rings sizes))) (pad_with no_height sp (spans_to options sizes coords (rings sizes)))
      (pad s (stripes_to options sizes coords (rings sizes))) (pad l (list_to options sizes coords (rings sizes)))
      (pad b (bytes_to options sizes coords (rings sizes)))

  module _ (t sp s l b k : ℕ) (below : k < rings sizes) where
    pub row_number : (i : ℕ) → i < 10 → number (made t sp s l b).table k i ≡ get_or (row_at options sizes coords k) i 0
    row_number i h =
        pool_at (row_at options sizes coords) 0 t k (rings sizes) below 10 (λ j. refl) i h 0

    -- it has what the options give it
    pub tells_its_stripes : has_stripes (made t sp s l b).table k ≡ getsStripes options (segments (size_at sizes k))
    tells_its_stripes =
        ap (λ (n : ℕ). eqb (n % 2) 1) (row_number 2 (omega arith))
        ∙ tells_stripes (getsStripes options (segments (size_at sizes k))) (getsTree options (segments (size_at sizes k)))

    pub tells_its_tree : has_tree (made t sp s l b).table k ≡ getsTree options (segments (size_at sizes k))
    tells_its_tree =
        ap (λ (n : ℕ). eqb (n / 2 % 2) 1) (row_number 2 (omega arith))
        ∙ tells_tree (getsStripes options (segments (size_at sizes k))) (getsTree options (segments (size_at sizes k)))

    -- and these are its own
    pub reads_least : least_of (made t sp s l b).spans k ≡ least_in options (wide (ring_of sizes coords k)) (size_at sizes k)
    reads_least =
        let e : 2 * k ≡ 2 * k + 0 = omega arith in
        ap (λ (i : ℕ). get_or (made t sp s l b).spans i none) e
        ∙ pool_at (λ j. span_part options (wide (ring_of sizes coords j)) (size_at sizes j)) no_height sp k (rings sizes) below 2 (λ j. refl) 0 (omega arith) none

    pub reads_height : height_of (made t sp s l b).spans k ≡ height_in options (wide (ring_of sizes coords k)) (size_at sizes k)
    reads_height =
        pool_at (λ j. span_part options (wide (ring_of sizes coords j)) (size_at sizes j)) no_height sp k (rings sizes) below 2 (λ j. refl) 1 (omega arith) none

    pub reads_stripes : stripes_of (made t sp s l b).table (made t sp s l b).stripes k ≡ stripes_part options (wide (ring_of sizes coords k)) (size_at sizes k)
    reads_stripes =
        let count = stripes_long options (wide (ring_of sizes coords k)) (size_at sizes k) in
        ap₂ (λ (at n : ℕ). part (made t sp s l b).stripes at (2 * n)) (row_number 3 (omega arith)) (row_number 4 (omega arith))
        ∙ ap (λ (n : ℕ). part (made t sp s l b).stripes (length (stripes_to options sizes coords k)) n) count
        ∙ pool_part (λ j. stripes_part options (wide (ring_of sizes coords j)) (size_at sizes j)) 0 s k (rings sizes) below

    pub reads_list : list_of (made t sp s l b).table (made t sp s l b).list k ≡ list_part options (wide (ring_of sizes coords k)) (size_at sizes k)
    reads_list =
        let count = entries_long options (wide (ring_of sizes coords k)) (size_at sizes k) in
        ap₂ (λ (at n : ℕ). part (made t sp s l b).list at n) (row_number 5 (omega arith)) (row_number 6 (omega arith))
        ∙ ap (λ (n : ℕ). part (made t sp s l b).list (length (list_to options sizes coords k)) n) count
        ∙ pool_part (λ j. list_part options (wide (ring_of sizes coords j)) (size_at sizes j)) 0 l k (rings sizes) below

    pub reads_bytes : bytes_of (made t sp s l b).table (made t sp s l b).bytes k ≡ bytes_part options (wide (ring_of sizes coords k)) (size_at sizes k)
    reads_bytes =
        ap₂ (λ (at n : ℕ). part (made t sp s l b).bytes at n) (row_number 8 (omega arith)) (row_number 9 (omega arith))
        ∙ pool_part (λ j. bytes_part options (wide (ring_of sizes coords j)) (size_at sizes j)) 0 b k (rings sizes) below

    -- all of them lie in the rooms
    stripes_there : lies (made t sp s l b).stripes (number (made t sp s l b).table k 3) (2 * number (made t sp s l b).table k 4) ≡ true
    stripes_there =
        let count = stripes_long options (wide (ring_of sizes coords k)) (size_at sizes k) in
        ap₂ (λ (at n : ℕ). lies (made t sp s l b).stripes at (2 * n)) (row_number 3 (omega arith)) (row_number 4 (omega arith))
        ∙ ap (λ (n : ℕ). lies (made t sp s l b).stripes (length (stripes_to options sizes coords k)) n) count
        ∙ le-leb _ _ (pool_lies (λ j. stripes_part options (wide (ring_of sizes coords j)) (size_at sizes j)) 0 s k (rings sizes) below)

    list_there : lies (made t sp s l b).list (number (made t sp s l b).table k 5) (number (made t sp s l b).table k 6) ≡ true
    list_there =
        let count = entries_long options (wide (ring_of sizes coords k)) (size_at sizes k) in
        ap₂ (λ (at n : ℕ). lies (made t sp s l b).list at n) (row_number 5 (omega arith)) (row_number 6 (omega arith))
        ∙ ap (λ (n : ℕ). lies (made t sp s l b).list (length (list_to options sizes coords k)) n) count
        ∙ le-leb _ _ (pool_lies (λ j. list_part options (wide (ring_of sizes coords j)) (size_at sizes j)) 0 l k (rings sizes) below)

    span_there : lies (made t sp s l b).spans (2 * k) 2 ≡ true
    span_there =
        let spans : ℕ → List Float = λ j. span_part options (wide (ring_of sizes coords j)) (size_at sizes j) in
        le-leb (2 * k + 2) (length (made t sp s l b).spans) (omega (arith, pool_lies spans no_height sp k (rings sizes) below, turn_like spans 2 k (λ j. refl)))

    pub made_lie : stripes_lie (made t sp s l b) k ≡ true
    made_lie = ap₂ ◌&&◌ (ap₂ ◌&&◌ stripes_there list_there) span_there

    pub made_lies : tree_lies (made t sp s l b) k ≡ true
    made_lies =
        ap₂ (λ (at n : ℕ). lies (made t sp s l b).bytes at n) (row_number 8 (omega arith)) (row_number 9 (omega arith))
        ∙ le-leb _ _ (pool_lies (λ j. bytes_part options (wide (ring_of sizes coords j)) (size_at sizes j)) 0 b k (rings sizes) below)

    -- which is what building an index from the ring gives it
    pub made_own : few_stripes options (wide (ring_of sizes coords k)) (size_at sizes k) ≡ true → OwnIndex (made t sp s l b) k (wide (ring_of sizes coords k)) (size_at sizes k)
    made_own few =
        record {
          stripes =
              λ h.
              let gets = sym tells_its_stripes ∙ h in
              record {
                lie = made_lie;
                few = gets_few options (wide (ring_of sizes coords k)) (size_at sizes k) gets few;
                from = reads_least ∙ gets_least options (wide (ring_of sizes coords k)) (size_at sizes k) gets;
                tall = reads_height ∙ gets_height options (wide (ring_of sizes coords k)) (size_at sizes k) gets;
                table = reads_stripes ∙ gets_stripes options (wide (ring_of sizes coords k)) (size_at sizes k) gets;
                numbers = reads_list ∙ gets_list options (wide (ring_of sizes coords k)) (size_at sizes k) gets;
              };
          lies = λ h. made_lies;
          tree = λ h. reads_bytes ∙ gets_bytes options (wide (ring_of sizes coords k)) (size_at sizes k) (sym tells_its_tree ∙ h);
        }
