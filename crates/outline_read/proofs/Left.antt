-- What building the indexes of an outline leaves in the rooms is, for every ring, what the options give it, and the ring's own; so each ring's test
-- through it is the scan's. Assumes nothing.
use Rattle.std.specs.Prelude.{Ok, Err}
use Prim.Native.Nat.{ℕ, ◌<◌}
use mathlib.Core.Path.{◌≡◌, refl, sym, ap, ◌∙◌, subst}
use mathlib.Core.List.{List}
use mathlib.Core.Bool.{Bool, true, false, cond, ◌&&◌}
use native.Mathlib.Omega.{arith}
use lib.ListN.{length, replicate}
use lib.IntN.{ℤ}
use lib.Ieee.{Float}
use lib.Ieee.Scale.{finite}
use Rattle.answers.specs.declared.Refusal.{Refusal}
use Rattle.answers.specs.declared.Refusal.TheVariants.{NoRoom}
use Rattle.answers.specs.Answers.{said}
use Rattle.boxes.specs.declared.Point.{Point}
use Rattle.room.specs.Room.{pad}
use Rattle.rings.specs.Checks.{Checked}
use Rattle.rings.specs.Ring.{wide, segments}
use Rattle.rings.specs.I32s.{I32s}
use Rattle.rings.proofs.Checks.{both}
use Rattle.cast_test.specs.Test.{scan_of}
use Rattle.tree.specs.Tree.{ring_box}
use Rattle.outline_check.specs.Outline.{rings, size_at, ring_of}
use Rattle.outline_check.specs.Rules.{shape_checked}
use Rattle.outline_check.proofs.Sound.{sound_shape, ring_sound}
use Rattle.outline_ring.specs.RingIndex.{Indexes, lent, has_stripes, has_tree, ring_asked}
use Rattle.outline_build.specs.Statistics.{stats_at, ring_stats}
use Rattle.outline_agree.specs.Own.{OwnIndex, OwnIndexes}
use Rattle.outline_agree.proofs.Rings.{asked_as_scan, ring_nums}
use Rattle.outline_index.specs.declared.BuildOptions.{BuildOptions}
use Rattle.outline_index.specs.Pools.{pad_with}
use Rattle.outline_index.specs.Parts.{no_height, has_stripes as getsStripes, has_tree as getsTree, few_stripes, enough_work}
use Rattle.outline_index.proofs.Pools.{every_one}
use Rattle.outline_build.proofs.Roomy.{roomy_is}
use Rattle.outline_build.specs.Indexes.{Outcome, stripes_to, list_to, bytes_to, spans_to, rows_to, calls, zeroed, when_shaped, roomy, indexed, indexes_built}
use Rattle.outline_read.proofs.Rows.{made, tells_its_stripes, tells_its_tree, made_own}
use Rattle.outline_read.proofs.Statistics.{made_stats}

module _ (sizes : List ℕ) (coords : List ℤ) (options : BuildOptions) (table : List ℕ) (spans : List Float) (stripes list bytes work : List ℕ) where
  -- room that suffices has no ring call for too many stripes
  roomy_few : roomy table spans stripes list bytes work options sizes coords ≡ true
      → (k : ℕ) → k < rings sizes → few_stripes options (wide (ring_of sizes coords k)) (size_at sizes k) ≡ true
  roomy_few e k h =
      let enough = roomy_is options sizes coords table spans stripes list bytes work e in
      (both (few_stripes options (wide (ring_of sizes coords k)) (size_at sizes k)) (enough_work options (wide (ring_of sizes coords k)) (size_at sizes k) work)
      (every_one (calls options sizes coords work) k (rings sizes) h enough.called)).0

  module _ (count : ℕ) (t : List ℕ) (sp : List Float) (s l b w : List ℕ)
      (built : indexes_built sizes coords options table spans stripes list bytes work ≡ (Ok count, t, sp, s, l, b, w)) where
    -- what a building that isn't refused says
    record Left : Type 0 where
      shape : shape_checked sizes coords ≡ Ok tt
      enough : roomy table spans stripes list bytes work options sizes coords ≡ true
      holds : made options sizes coords (length table) (length spans) (length stripes) (length list) (length bytes) ≡ lent t sp s l b

    left : Left
    unfolding indexes_built indexed
    left = go (shape_checked sizes coords) (roomy table spans stripes list bytes work options sizes coords) refl refl built
      where
        never : (why : Refusal) (o : Outcome) → o.0 ≡ Err why → o ≡ (Ok count, t, sp, s, l, b, w) → ⊥
        never why o e f = let g : Err why ≡ Ok count = sym e ∙ ap (λ (o : Outcome). o.0) f in let z : ◌≡◌ {A = ℕ} 0 1 = cc in omega arith

        go : (c : Checked) (r : Bool) → shape_checked sizes coords ≡ c → roomy table spans stripes list bytes work options sizes coords ≡ r
            → ◌≡◌ {A = Outcome}
            (when_shaped table spans stripes list bytes work c
            (cond r (
              Ok (rings sizes),
              pad (length table) (rows_to options sizes coords (rings sizes)),
              pad_with no_height (length spans) (spans_to options sizes coords (rings sizes)),
              pad (length stripes) (stripes_to options sizes coords (rings sizes)),
              pad (length list) (list_to options sizes coords (rings sizes)),
              pad (length bytes) (bytes_to options sizes coords (rings sizes)),
              replicate (length work) 0,
            )
            (zeroed table spans stripes list bytes work (Err NoRoom))))
            (Ok count, t, sp, s, l, b, w)
            → Left
        go (Ok _) true e f g = record { shape = e; enough = f; holds = ap (λ (o : Outcome). lent o.1 o.2 o.3 o.4 o.5) g }
        go (Ok _) false e f g = absurd (never NoRoom _ refl g)
        go (Err why) r e f g = absurd (never why _ refl g)

    module _ (k : ℕ) (below : k < rings sizes) where
      -- the ring has the indexes that the options give it
      pub left_stripes : has_stripes t k ≡ getsStripes options (segments (size_at sizes k))
      left_stripes =
          ap (λ (x : Indexes). has_stripes x.table k) (sym left.holds)
          ∙ tells_its_stripes options sizes coords (length table) (length spans) (length stripes) (length list) (length bytes) k below

      pub left_tree : has_tree t k ≡ getsTree options (segments (size_at sizes k))
      left_tree =
          ap (λ (x : Indexes). has_tree x.table k) (sym left.holds)
          ∙ tells_its_tree options sizes coords (length table) (length spans) (length stripes) (length list) (length bytes) k below

      -- and the statistics that its row tells are the ring's true ones
      pub left_stats : stats_at t k ≡ ring_stats options (wide (ring_of sizes coords k)) (size_at sizes k)
      left_stats =
          ap (λ (x : Indexes). stats_at x.table k) (sym left.holds)
          ∙ made_stats options sizes coords (length table) (length spans) (length stripes) (length list) (length bytes) k below

      -- they are its own
      own_at : OwnIndex (lent t sp s l b) k (wide (ring_of sizes coords k)) (size_at sizes k)
      own_at =
          subst (λ (x : Indexes). OwnIndex x k (wide (ring_of sizes coords k)) (size_at sizes k)) left.holds
          (made_own options sizes coords (length table) (length spans) (length stripes) (length list) (length bytes) k below (roomy_few left.enough k below))

      -- so the ring test through them is the scan's
      pub left_as_scan : I32s coords → (p : Point) (edge : Bool) → (finite p.x && finite p.y) ≡ true
          → ring_asked (lent t sp s l b) k (ring_box (wide (ring_of sizes coords k)) (size_at sizes k)) (wide (ring_of sizes coords k)) (segments (size_at sizes k)) p edge
          ≡ said (scan_of (wide (ring_of sizes coords k)) (segments (size_at sizes k)) p edge)
      left_as_scan nums p edge fit =
          let shaped = (sound_shape sizes coords true left.shape).1 in
          asked_as_scan (lent t sp s l b) k (ring_of sizes coords k) (size_at sizes k) (ring_sound sizes coords k shaped below)
          (ring_nums sizes coords k shaped.counted below nums) own_at p edge fit

    -- ---- all rings
    pub left_own : OwnIndexes (lent t sp s l b) sizes coords
    left_own k below = own_at k below
