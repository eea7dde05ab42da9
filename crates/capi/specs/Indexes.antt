-- How building the indexes of all rings is asked for and told: 0 and how many rings there are.
use Rattle.std.specs.Prelude.{Ok, Err, ℕ, ◌/◌, ◌%◌, List, eqb, Float}
use Rattle.outline_index.specs.declared.BuildOptions.{BuildOptions}
use Rattle.outline_build.specs.Indexes.{Built}
use Rattle.capi.specs.Told.{Told, refusal_told}

-- bit 0 asks for stripes, bit 1 for trees
abbrev pub options_of : ℕ → ℕ → BuildOptions
options_of options threshold =
    record { enable_y_stripes = eqb (options % 2) 1; enable_compressed_quad = eqb (options / 2 % 2) 1; min_segments = threshold }

abbrev pub indexed_told : Built → Told
indexed_told (Ok n) = (0, n)
indexed_told (Err why) = refusal_told why

-- what is returned with value; the table, spans, stripes, list, bytes and work room
abbrev pub Outcome : Type 0
Outcome = Told × List ℕ × List Float × List ℕ × List ℕ × List ℕ × List ℕ

-- the answer comes with the rooms as the build left them
abbrev pub indexed_all : Built × List ℕ × List Float × List ℕ × List ℕ × List ℕ × List ℕ → Outcome
indexed_all (answer, table, spans, stripes, list, bytes, work) = (indexed_told answer, table, spans, stripes, list, bytes, work)
