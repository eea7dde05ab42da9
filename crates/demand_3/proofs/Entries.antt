-- "Entries in all equals the sum, over segments, of stripes crossed": of the statistics that building a ring's stripes tells, and of those that a row of
-- a built table tells. Assumes nothing.
use Rattle.std.specs.Prelude.{Ok, Some}
use mathlib.Core.Path.{◌≡◌, refl, sym, ap, ◌∙◌}
use mathlib.Core.Bool.{Bool, true, false}
use mathlib.Core.List.{List}
use Prim.Native.Nat.{ℕ, ◌≤◌, ◌<◌}
use native.Mathlib.Omega.{arith}
use lib.IntN.{ℤ}
use lib.Ieee.{Float}
use Rattle.rings.specs.Ring.{wide, segments}
use Rattle.stripes_count.specs.Count.{stripe_count}
use Rattle.stripes_count.proofs.Least.{some_stripes}
use Rattle.stripes_index.specs.Index.{least_y, height_y}
use Rattle.stripes_index.specs.Inner.States.{sum_to}
use Rattle.stripes_index.proofs.Entries.{entries_sum}
use Rattle.stripes_build.specs.declared.StripesStats.{StripesStats}
use Rattle.stripes_build.specs.Build.{stats_of, stripes_built}
use Rattle.stripes_build.proofs.Building.{Indexed as Filled, built_is}
use Rattle.outline_check.specs.Outline.{rings, size_at, ring_of}
use Rattle.outline_index.specs.declared.BuildOptions.{BuildOptions}
use Rattle.outline_index.specs.Parts.{has_stripes}
use Rattle.outline_build.specs.declared.RingBuildStats.{RingBuildStats}
use Rattle.outline_build.specs.Indexes.{indexes_built}
use Rattle.outline_build.specs.Statistics.{told_by, stats_at, ring_stats}
use Rattle.outline_read.proofs.Left.{left_stripes, left_stats, left_own}
use Rattle.demand_3.specs.Words.{stripes_crossed}

-- of a ring's own stripes
pub own_entries : (ring : ℕ → Float) (n : ℕ) → stripe_count ring n ≤ 65536 → (stats_of ring n).entries ≡ sum_to (stripes_crossed ring n) n
own_entries ring n few =
    entries_sum ring (least_y ring n) (height_y ring n) n (stripe_count ring n) (omega (arith, some_stripes ring n)) (omega arith)

pub stats_entries : (ring : List ℤ) (points threshold : ℕ) (stripes list : List ℕ) (least height : Float) (stats : StripesStats) (s l : List ℕ)
    → stripes_built ring points threshold stripes list ≡ (Ok (Some (record { least = least; height = height; stats = stats })), s, l)
    → stats.entries ≡ sum_to (stripes_crossed (wide ring) (segments points)) (segments points)
stats_entries ring points threshold stripes list least height stats s l built =
    let n = segments points in
    let b : Filled (wide ring) n stripes list least height stats s l = (built_is (wide ring) n stripes list least height stats s l _ points threshold refl built).1 in
    ap (λ (x : StripesStats). x.entries) b.counts ∙ own_entries (wide ring) n b.few

-- what is true of a ring that has stripes
told_stripes_lem : (options : BuildOptions) (ring : ℕ → Float) (points : ℕ) → (ring_stats options ring points).y_stripes ≡ told_by (has_stripes options (segments points)) (stats_of ring (segments points))
unfolding ring_stats
told_stripes_lem options ring points = refl

module _ (sizes : List ℕ) (coords : List ℤ) (options : BuildOptions) (table : List ℕ) (spans : List Float) (stripes list bytes work : List ℕ)
    (count : ℕ) (t : List ℕ) (sp : List Float) (s l b w : List ℕ)
    (built : indexes_built sizes coords options table spans stripes list bytes work ≡ (Ok count, t, sp, s, l, b, w)) (k : ℕ) (below : k < rings sizes) where
  pub row_entries : (stats : StripesStats) → (stats_at t k).y_stripes ≡ Some stats
      → stats.entries ≡ sum_to (stripes_crossed (wide (ring_of sizes coords k)) (segments (size_at sizes k))) (segments (size_at sizes k))
  row_entries stats told =
      go (has_stripes options n) refl
      (sym (ap (λ (r : RingBuildStats). r.y_stripes) (left_stats sizes coords options table spans stripes list bytes work count t sp s l b w built k below) ∙ told_stripes_lem options ring (size_at sizes k)) ∙ told)
    where
      ring : ℕ → Float
      ring = wide (ring_of sizes coords k)

      n : ℕ
      n = segments (size_at sizes k)

      go : (h : Bool) → has_stripes options n ≡ h → told_by h (stats_of ring n) ≡ Some stats → stats.entries ≡ sum_to (stripes_crossed ring n) n
      go true e u =
          let has = left_stripes sizes coords options table spans stripes list bytes work count t sp s l b w built k below ∙ e in
          let own = (left_own sizes coords options table spans stripes list bytes work count t sp s l b w built k below).stripes has in
          let same : stats_of ring n ≡ stats = cc in
          sym (ap (λ (x : StripesStats). x.entries) same) ∙ own_entries ring n own.few
      go false e u = let z : ◌≡◌ {A = ℕ} 0 1 = cc in absurd (omega arith)
