-- What is left to build, step by step, in a room for the bytes that is zero.
use Rattle.std.specs.Prelude.{Ok, Err, Some, cond, List, ℕ, ◌*◌, length, replicate, leb}
use Rattle.answers.specs.declared.Refusal.TheVariants.{NoRoom}
use Rattle.room.specs.Room.{pad}
use Rattle.tree.specs.Tree.{Tree, packed, nodes}
use Rattle.tree_build.specs.Build.{TreeBuilt}

-- the answer and the bytes
abbrev pub Bytes : Type 0
Bytes = TreeBuilt × List ℕ

abbrev pub short : ℕ → Bytes
short room = (Err NoRoom, replicate room 0)

-- bytes put where there is room for so many
unfoldable pub put : List ℕ → ℕ → Bytes
put bytes room = cond (leb (length bytes) room) (Ok (Some (length bytes)), pad room bytes) (short room)

-- a tree whose records have room for so many numbers
unfoldable pub put_grown : Tree → ℕ → ℕ → Bytes
put_grown t numbers room = cond (leb (6 * nodes t) numbers) (put (packed t) room) (short room)
