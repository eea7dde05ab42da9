-- How building a ring's stripes is told: 1 and the stripe count where they were built, 0 under the threshold. Beside the stripes and the list two
-- rooms more are lent: one for least and height, one for the four statistics.
use Rattle.std.specs.Prelude.{Ok, Err, Some, None, ℕ, ◌-◌, List, [], ◌∷◌, cond, ◌&&◌, leb, length, replicate, Float}
use Rattle.std.specs.Float.{binary64}
use Rattle.std.specs.Float.Ieee.{of_bits}
use Rattle.answers.specs.declared.Refusal.{Refusal}
use Rattle.answers.specs.declared.Refusal.TheVariants.{NoRoom}
use Rattle.answers.specs.Refusals.{zeroes_rooms}
use Rattle.room.specs.Room.{pad}
use Rattle.stripes_build.specs.declared.StripesStats.{StripesStats}
use Rattle.stripes_build.specs.Build.{StripesBuilt}
use Rattle.capi.specs.Told.{Told, refusal_told}

-- room for n floats that is zero
abbrev pub zero_span : ℕ → List Float
zero_span n = replicate n (of_bits binary64 0)

-- room for n floats, at least two, of which least and height are the used part
abbrev pub span_of : Float → Float → ℕ → List Float
span_of least height n = least ∷ height ∷ zero_span (n - 2)

-- "Statistics: segments, stripes, entries in all, fullest stripe."
abbrev pub four : StripesStats → List ℕ
four told = told.segments ∷ told.stripes ∷ told.entries ∷ told.fullest ∷ []

-- what is returned with value; the stripes, the list, least and height, the statistics
abbrev pub Outcome : Type 0
Outcome = Told × List ℕ × List ℕ × List Float × List ℕ

-- Stripes that were built, where both rooms more are long enough. Short room is 8, which zeroes all of it.
unfoldable pub striped_told : Float → Float → StripesStats → List ℕ → List ℕ → List Float → List ℕ → Outcome
striped_told least height told stripes list span stats =
    cond (leb 2 (length span) && leb 4 (length stats))
    ((1, told.stripes), stripes, list, span_of least height (length span), pad (length stats) (four told))
    (refusal_told NoRoom, replicate (length stripes) 0, replicate (length list) 0, zero_span (length span), replicate (length stats) 0)

-- under the threshold, with what is left in the two rooms more
abbrev pub unstriped_told : List Float → List ℕ → Told × List Float × List ℕ
unstriped_told span stats = ((0, 0), zero_span (length span), replicate (length stats) 0)

-- a refusal that fills all lent room with zeros fills these two as well
unfoldable pub refused_told : Refusal → List Float → List ℕ → Told × List Float × List ℕ
refused_told why span stats =
    cond (zeroes_rooms why) (refusal_told why, zero_span (length span), replicate (length stats) 0) (refusal_told why, span, stats)

-- an outcome of the two rooms more, with the stripes and the list as they are
abbrev pub with_lists : List ℕ → List ℕ → Told × List Float × List ℕ → Outcome
with_lists stripes list (said, span, stats) = (said, stripes, list, span, stats)

abbrev pub built_told : StripesBuilt → List ℕ → List ℕ → List Float → List ℕ → Outcome
built_told (Ok (Some built)) stripes list span stats = striped_told built.least built.height built.stats stripes list span stats
built_told (Ok None) stripes list span stats = with_lists stripes list (unstriped_told span stats)
built_told (Err why) stripes list span stats = with_lists stripes list (refused_told why span stats)

-- the answer comes with the stripes and the list as the build left them
abbrev pub built_all : StripesBuilt × List ℕ × List ℕ → List Float → List ℕ → Outcome
built_all (answer, stripes, list) span stats = built_told answer stripes list span stats
