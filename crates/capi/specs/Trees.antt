-- How building a ring's packed tree is told: 1 and how many bytes it has, 0 under the threshold.
use Rattle.std.specs.Prelude.{Ok, Err, Some, None, ℕ, List}
use Rattle.tree_build.specs.Build.{TreeBuilt}
use Rattle.capi.specs.Told.{Told, refusal_told}

abbrev pub packed_told : TreeBuilt → Told
packed_told (Ok (Some n)) = (1, n)
packed_told (Ok None) = (0, 0)
packed_told (Err why) = refusal_told why

-- with the bytes and the work room
abbrev pub packed_all : TreeBuilt × List ℕ × List ℕ → Told × List ℕ × List ℕ
packed_all (answer, bytes, work) = (packed_told answer, bytes, work)
