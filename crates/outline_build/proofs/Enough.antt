-- Building the indexes of an outline is not refused where the room is as large as the rules call for. Assumes nothing.
use Rattle.std.specs.Prelude.{Ok}
use Prim.Native.Nat.{ℕ}
use mathlib.Core.Path.{◌≡◌}
use mathlib.Core.List.{List}
use lib.ListN.{length, replicate}
use lib.IntN.{ℤ}
use lib.Ieee.{Float}
use Rattle.room.specs.Room.{pad}
use Rattle.outline_check.specs.Outline.{rings}
use Rattle.outline_check.specs.Rules.{shape_checked}
use Rattle.outline_index.specs.declared.BuildOptions.{BuildOptions}
use Rattle.outline_index.specs.Pools.{pad_with}
use Rattle.outline_index.specs.Parts.{no_height}
use Rattle.outline_build.specs.Indexes.{stripes_to, list_to, bytes_to, spans_to, rows_to, indexed, indexes_built}
use Rattle.outline_build.proofs.Roomy.{Enough, roomy_all}

module _ (options : BuildOptions) (sizes : List ℕ) (coords : List ℤ) (T : List ℕ) (F : List Float) (S L B W : List ℕ) where
  pub builds : shape_checked sizes coords ≡ Ok tt → Enough options sizes coords T F S L B W
      → indexes_built sizes coords options T F S L B W
      ≡ (
        Ok (rings sizes),
        pad (length T) (rows_to options sizes coords (rings sizes)),
        pad_with no_height (length F) (spans_to options sizes coords (rings sizes)),
        pad (length S) (stripes_to options sizes coords (rings sizes)),
        pad (length L) (list_to options sizes coords (rings sizes)),
        pad (length B) (bytes_to options sizes coords (rings sizes)),
        replicate (length W) 0,
      )
  unfolding indexes_built indexed
  builds sound e =
      rw (sound, roomy_all options sizes coords T F S L B W e.rows e.heights e.pairs e.entries e.packed e.called)
