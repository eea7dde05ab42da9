-- The numbers that stand for what the calls on stripes say.
use Rattle.std.specs.Prelude.{ℕ, Ok, Err, Some, None, List, Float}
use Rattle.std.specs.Float.{binary64}
use Rattle.std.specs.Float.Ieee.{of_bits}
use Rattle.answers.specs.Refusals.{number_of, place_of}
use Rattle.stripes_build.specs.Build.{StripesBuilt}
use Rattle.rings.specs.Listing.{Listed}

-- 0 or the refusal's number, and its place; least and height; the four statistics. No stripes stand for a ring under the threshold.
abbrev pub Built : Type 0
Built = ℕ × ℕ × Float × Float × ℕ × ℕ × ℕ × ℕ

abbrev pub built_numbers : StripesBuilt → Built
built_numbers (Ok (Some s)) = (0, 0, s.least, s.height, s.stats.segments, s.stats.stripes, s.stats.entries, s.stats.fullest)
built_numbers (Ok None) = (0, 0, of_bits binary64 0, of_bits binary64 0, 0, 0, 0, 0)
built_numbers (Err refusal) = (number_of refusal, place_of refusal, of_bits binary64 0, of_bits binary64 0, 0, 0, 0, 0)

-- the same with the rooms
abbrev pub built_all : StripesBuilt × List ℕ × List ℕ → Built × List ℕ × List ℕ
built_all (answer, stripes, list) = (built_numbers answer, stripes, list)

-- 0 or the refusal's number, its place, and how many were found
abbrev pub listed_numbers : Listed → ℕ × ℕ × ℕ
listed_numbers (Ok n) = (0, 0, n)
listed_numbers (Err refusal) = (number_of refusal, place_of refusal, 0)

abbrev pub listed_all : Listed × List ℕ → (ℕ × ℕ × ℕ) × List ℕ
listed_all (answer, out) = (listed_numbers answer, out)
