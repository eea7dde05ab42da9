-- What is left to build once the stripes are known to be few enough and to fit.
use Rattle.std.specs.Prelude.{Err, cond, List, ℕ, length, leb, Float}
use Rattle.answers.specs.declared.Refusal.TheVariants.{NoRoom}
use Rattle.room.specs.Room.{pad}
use Rattle.stripes_index.specs.Index.{crosses, table_of, list_of, entries_of, fullest_of}
use Rattle.stripes_build.specs.Build.{striped, Outcome, zeroed}

unfoldable pub filled_of : (ℕ → Float) → ℕ → Float → Float → ℕ → List ℕ → List ℕ → Outcome
filled_of ring n least height m stripes list =
    cond (leb (entries_of (crosses ring least height m) n m) (length list)) (
      striped least height (record { segments = n; stripes = m; entries = entries_of (crosses ring least height m) n m; fullest = fullest_of (crosses ring least height m) n m }),
      pad (length stripes) (table_of (crosses ring least height m) n m),
      pad (length list) (list_of (crosses ring least height m) n m),
    )
    (zeroed (Err NoRoom) stripes list)
