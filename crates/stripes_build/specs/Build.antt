-- 01, "Stripes" and "What a call says when it says no": what building answers, and what it leaves in the room lent for the stripes, two numbers a
-- stripe, and for the list.
use Rattle.std.specs.Prelude.{Result, Ok, Err, Option, Some, None, Bool, cond, ◌&&◌, List, ℕ, ◌*◌, length, replicate, leb, ltb, ℤ, Float}
use Rattle.answers.specs.declared.Refusal.{Refusal}
use Rattle.answers.specs.declared.Refusal.TheVariants.{NoRoom}
use Rattle.room.specs.Room.{pad}
use Rattle.rings.specs.Checks.{Checked}
use Rattle.rings.specs.Ring.{wide, segments}
use Rattle.rings.specs.Checks.{ring_checked}
use Rattle.stripes_count.specs.Count.{stripe_count}
use Rattle.stripes_build.specs.declared.Stripes.{Stripes}
use Rattle.stripes_build.specs.declared.StripesStats.{StripesStats}
use Rattle.stripes_index.specs.Index.{least_y, height_y, crosses, table_of, list_of, entries_of, fullest_of}

-- the index's least y and height with its statistics; no index, under the threshold; or a refusal
abbrev pub StripesBuilt : Type 0
StripesBuilt = Result (Option Stripes) Refusal

abbrev pub striped : Float → Float → StripesStats → StripesBuilt
striped least height stats = Ok (Some (record { least = least; height = height; stats = stats }))

-- the answer, the stripes and the list
abbrev pub Outcome : Type 0
Outcome = StripesBuilt × List ℕ × List ℕ

-- an answer that leaves all lent room zero
abbrev pub zeroed : StripesBuilt → List ℕ → List ℕ → Outcome
zeroed answer stripes list = (answer, replicate (length stripes) 0, replicate (length list) 0)

-- which stripe each of a ring's n segments crosses, in the ring's own index
abbrev pub crosses_in : (ℕ → Float) → ℕ → ℕ → ℕ → Bool
crosses_in ring n = crosses ring (least_y ring n) (height_y ring n) (stripe_count ring n)

-- "Statistics: segments, stripes, entries in all, fullest stripe."
abbrev pub stats_of : (ℕ → Float) → ℕ → StripesStats
stats_of ring n =
    record {
      segments = n;
      stripes = stripe_count ring n;
      entries = entries_of (crosses_in ring n) n (stripe_count ring n);
      fullest = fullest_of (crosses_in ring n) n (stripe_count ring n);
    }

-- "Room is short exactly when the .. list numbers, .. stripes .. outnumber what was lent, or over 65,536 stripes are called for."
abbrev pub roomy : (ℕ → Float) → ℕ → List ℕ → List ℕ → Bool
roomy ring n stripes list =
    leb (stripe_count ring n) 65536 && leb (stripe_count ring n * 2) (length stripes)
    && leb (entries_of (crosses_in ring n) n (stripe_count ring n)) (length list)

-- the index of a ring that passed the checks
unfoldable pub indexed : (ℕ → Float) → ℕ → List ℕ → List ℕ → Outcome
indexed ring n stripes list =
    cond (roomy ring n stripes list) (
      striped (least_y ring n) (height_y ring n) (stats_of ring n),
      pad (length stripes) (table_of (crosses_in ring n) n (stripe_count ring n)),
      pad (length list) (list_of (crosses_in ring n) n (stripe_count ring n)),
    )
    (zeroed (Err NoRoom) stripes list)

-- "A ring under the threshold gets no index and says so."
unfoldable pub from_threshold : (ℕ → Float) → ℕ → ℕ → List ℕ → List ℕ → Outcome
from_threshold ring n threshold stripes list = cond (ltb n threshold) (zeroed (Ok None) stripes list) (indexed ring n stripes list)

-- checks 1 to 4 come first, and touch no room
abbrev pub when_sound : Checked → List ℕ → List ℕ → Outcome → Outcome
when_sound (Ok _) stripes list later = later
when_sound (Err why) stripes list later = (Err why, stripes, list)

-- what the checks found is given, since they look at the stored numbers and what follows does not
unfoldable pub stripes_built_by : Checked → (ℕ → Float) → ℕ → ℕ → List ℕ → List ℕ → Outcome
stripes_built_by checked ring points threshold stripes list = when_sound checked stripes list (from_threshold ring (segments points) threshold stripes list)

-- of a stored ring
abbrev pub stripes_built : List ℤ → ℕ → ℕ → List ℕ → List ℕ → Outcome
stripes_built ring points threshold stripes list = stripes_built_by (ring_checked ring points) (wide ring) points threshold stripes list
