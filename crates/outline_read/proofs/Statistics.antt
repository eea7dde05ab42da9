-- The statistics that a ring's row tells, in a table of all rings: those that are true of the ring. Assumes nothing.
use Prim.Native.Nat.{ℕ, ◌<◌}
use mathlib.Core.Path.{◌≡◌, refl, ap, ◌∙◌}
use mathlib.Core.List.{List, []}
use mathlib.Core.Bool.{Bool, true, false, cond}
use native.Mathlib.Omega.{arith}
use lib.ListN.{length}
use lib.IntN.{ℤ}
use lib.Dec.{eqb}
use lib.Ieee.{Float}
use Rattle.room.specs.Numbers.{bit}
use Rattle.rings.specs.Ring.{wide, segments}
use Rattle.stripes_count.specs.Count.{stripe_count}
use Rattle.stripes_index.specs.Index.{fullest_of}
use Rattle.stripes_build.specs.Build.{crosses_in}
use Rattle.outline_check.specs.Outline.{rings, size_at, ring_of}
use Rattle.outline_index.specs.declared.BuildOptions.{BuildOptions}
use Rattle.outline_index.specs.Parts.{has_stripes, has_tree, says_under, ring_list, list_part, stripes_in, entries_in, fullest_in}
use Rattle.outline_build.specs.declared.RingBuildStats.{RingBuildStats}
use Rattle.outline_build.specs.Statistics.{told_by, stats_at, ring_stats}
use Rattle.outline_read.proofs.Rows.{made, row_number, tells_its_stripes, tells_its_tree}

tells_under : (b : Bool) → eqb (bit b) 1 ≡ b
tells_under true = refl
tells_under false = refl

-- by what a row tells
abbrev told : ℕ → Bool → Bool → Bool → ℕ → ℕ → ℕ → RingBuildStats
told n under tree striped m entries fullest =
    record {
      segment_count = n;
      below_threshold = under;
      used_compressed_quad = tree;
      used_y_stripes = striped;
      y_stripes = told_by striped (record { segments = n; stripes = m; entries = entries; fullest = fullest });
    }

-- what a ring without stripes has of them doesn't count
told_if : (n : ℕ) (under tree striped : Bool) (m : ℕ) (list : List ℕ) (fullest : ℕ)
    → told n under tree striped (cond striped m 0) (length (cond striped list [])) (cond striped fullest 0) ≡ told n under tree striped m (length list) fullest
told_if n under tree true m list fullest = refl
told_if n under tree false m list fullest = refl

told_true : (options : BuildOptions) (ring : ℕ → Float) (points : ℕ)
    → told (segments points) (says_under options (segments points)) (has_tree options (segments points)) (has_stripes options (segments points))
    (stripes_in options ring points) (entries_in options ring points) (fullest_in options ring points)
    ≡ ring_stats options ring points
unfolding ring_stats stripes_in entries_in fullest_in list_part
told_true options ring points =
    let n = segments points in
    let m = stripe_count ring n in
    told_if n (says_under options n) (has_tree options n) (has_stripes options n) m (ring_list ring n) (fullest_of (crosses_in ring n) n m)

module _ (options : BuildOptions) (sizes : List ℕ) (coords : List ℤ) (t sp s l b k : ℕ) (below : k < rings sizes) where
  pub made_stats : stats_at (made options sizes coords t sp s l b).table k ≡ ring_stats options (wide (ring_of sizes coords k)) (size_at sizes k)
  unfolding stats_at
  made_stats =
      let n = segments (size_at sizes k) in
      let at = row_number options sizes coords t sp s l b k below in
      let zero = at 0 (omega arith) in
      let one = ap (λ (x : ℕ). eqb x 1) (at 1 (omega arith)) ∙ tells_under (says_under options n) in
      rw (zero, one, tells_its_tree options sizes coords t sp s l b k below, tells_its_stripes options sizes coords t sp s l b k below, at 4 (omega arith), at 6 (omega arith), at 7 (omega arith))
      (told_true options (wide (ring_of sizes coords k)) (size_at sizes k))
