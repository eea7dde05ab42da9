-- Statistics of a ring's build, as its row of the table tells them. The source's `RingBuildStats`.
use Rattle.std.specs.Prelude.{Option, Some, None, ℕ, ◌/◌, ◌%◌, List, Bool, true, false, eqb, Float}
use Rattle.rings.specs.Ring.{segments}
use Rattle.stripes_build.specs.declared.StripesStats.{StripesStats}
use Rattle.stripes_build.specs.Build.{stats_of}
use Rattle.outline_table.specs.Row.{number, segments_place, under_place, kinds_place, stripes_place, entries_place, fullest_place}
use Rattle.outline_index.specs.declared.BuildOptions.{BuildOptions}
use Rattle.outline_index.specs.Parts.{has_stripes, has_tree, says_under}
use Rattle.outline_build.specs.declared.RingBuildStats.{RingBuildStats}

-- what a ring's stripes hold, where it has them
abbrev pub YStripes : Type 0
YStripes = Option StripesStats

-- what is told of a ring's stripes, where it has them
abbrev pub told_by : Bool → StripesStats → YStripes
told_by true stats = Some stats
told_by false stats = None

module _ (table : List ℕ) (k : ℕ) where
  abbrev pub told_stripes : Bool
  told_stripes = eqb (number table k kinds_place % 2) 1

  -- what row k tells, as it stands
  unfoldable pub stats_at : RingBuildStats
  stats_at =
      record {
        segment_count = number table k segments_place;
        below_threshold = eqb (number table k under_place) 1;
        used_compressed_quad = eqb (number table k kinds_place / 2 % 2) 1;
        used_y_stripes = told_stripes;
        y_stripes =
            told_by told_stripes
            (record { segments = number table k segments_place; stripes = number table k stripes_place; entries = number table k entries_place; fullest = number table k fullest_place });
      }

-- what is true of a ring that was built by these options
unfoldable pub ring_stats : BuildOptions → (ℕ → Float) → ℕ → RingBuildStats
ring_stats options ring points =
    record {
      segment_count = segments points;
      below_threshold = says_under options (segments points);
      used_compressed_quad = has_tree options (segments points);
      used_y_stripes = has_stripes options (segments points);
      y_stripes = told_by (has_stripes options (segments points)) (stats_of ring (segments points));
    }
