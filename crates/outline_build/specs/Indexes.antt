-- The indexes of all rings of an outline: what building answers, and what it leaves in the lent rooms.
use Rattle.std.specs.Prelude.{Result, Ok, Err, ℕ, List, Bool, cond, ◌&&◌, leb, length, replicate, ℤ, Float}
use Rattle.answers.specs.declared.Refusal.{Refusal}
use Rattle.answers.specs.declared.Refusal.TheVariants.{NoRoom}
use Rattle.room.specs.Room.{pad}
use Rattle.rings.specs.Checks.{Checked}
use Rattle.outline_check.specs.Outline.{rings, size_at, ring_of}
use Rattle.outline_check.specs.Rules.{shape_checked}
use Rattle.outline_index.specs.declared.BuildOptions.{BuildOptions}
use Rattle.outline_index.specs.Pools.{in_turn, pad_with, every}
use Rattle.outline_index.specs.Parts.{no_height, stripes_part, list_part, bytes_part, span_part, row_of, few_stripes, enough_work}
use Rattle.rings.specs.Ring.{wide}

module _ (options : BuildOptions) (sizes : List ℕ) (coords : List ℤ) where
  -- the parts of rings 0 to k - 1, in ring order
  abbrev pub stripes_to : ℕ → List ℕ
  stripes_to k = in_turn (λ j. stripes_part options (wide (ring_of sizes coords j)) (size_at sizes j)) k

  abbrev pub list_to : ℕ → List ℕ
  list_to k = in_turn (λ j. list_part options (wide (ring_of sizes coords j)) (size_at sizes j)) k

  abbrev pub bytes_to : ℕ → List ℕ
  bytes_to k = in_turn (λ j. bytes_part options (wide (ring_of sizes coords j)) (size_at sizes j)) k

  abbrev pub spans_to : ℕ → List Float
  spans_to k = in_turn (λ j. span_part options (wide (ring_of sizes coords j)) (size_at sizes j)) k

  -- ring k's row: its parts start behind those of the rings before it
  abbrev pub row_at : ℕ → List ℕ
  row_at k = row_of options (wide (ring_of sizes coords k)) (size_at sizes k) (length (stripes_to k)) (length (list_to k)) (length (bytes_to k))

  abbrev pub rows_to : ℕ → List ℕ
  rows_to k = in_turn row_at k

  -- what ring k calls for, beside room for its parts
  abbrev pub calls : List ℕ → ℕ → Bool
  calls work k = few_stripes options (wide (ring_of sizes coords k)) (size_at sizes k) && enough_work options (wide (ring_of sizes coords k)) (size_at sizes k) work

-- what building answers: how many rings there are, or a refusal
abbrev pub Built : Type 0
Built = Result ℕ Refusal

-- the answer, and the table, spans, stripes, list, bytes and work room
abbrev pub Outcome : Type 0
Outcome = Built × List ℕ × List Float × List ℕ × List ℕ × List ℕ × List ℕ

module _ (table : List ℕ) (spans : List Float) (stripes list bytes work : List ℕ) where
  -- "8 .. fill all output and work room with zeros"
  abbrev pub zeroed : Built → Outcome
  zeroed answer = (
    answer,
    replicate (length table) 0,
    replicate (length spans) no_height,
    replicate (length stripes) 0,
    replicate (length list) 0,
    replicate (length bytes) 0,
    replicate (length work) 0,
  )

  -- "Refusals 1 to 7 touch no lent room"
  abbrev pub untouched : Built → Outcome
  untouched answer = (answer, table, spans, stripes, list, bytes, work)

  module _ (options : BuildOptions) (sizes : List ℕ) (coords : List ℤ) where
    -- "Room is short exactly when the packed bytes, list numbers, work numbers, stripes, or what a later call writes .. outnumber what was lent, or
    -- over 65,536 stripes are called for." All rings share one work room, one after the other.
    unfoldable pub roomy : Bool
    roomy =
        leb (length (rows_to options sizes coords (rings sizes))) (length table) && leb (length (spans_to options sizes coords (rings sizes))) (length spans)
        && leb (length (stripes_to options sizes coords (rings sizes))) (length stripes)
        && leb (length (list_to options sizes coords (rings sizes))) (length list) && leb (length (bytes_to options sizes coords (rings sizes))) (length bytes)
        && every (calls options sizes coords work) (rings sizes)

    -- every ring's parts, and "After success, output past the used part is zero and work room is all zero."
    unfoldable pub indexed : Outcome
    indexed =
        cond roomy (
          Ok (rings sizes),
          pad (length table) (rows_to options sizes coords (rings sizes)),
          pad_with no_height (length spans) (spans_to options sizes coords (rings sizes)),
          pad (length stripes) (stripes_to options sizes coords (rings sizes)),
          pad (length list) (list_to options sizes coords (rings sizes)),
          pad (length bytes) (bytes_to options sizes coords (rings sizes)),
          replicate (length work) 0,
        )
        (zeroed (Err NoRoom))

  -- checks 1 to 4 come first
  abbrev pub when_shaped : Checked → Outcome → Outcome
  when_shaped (Ok _) later = later
  when_shaped (Err why) later = untouched (Err why)

unfoldable pub indexes_built : List ℕ → List ℤ → BuildOptions → List ℕ → List Float → List ℕ → List ℕ → List ℕ → List ℕ → Outcome
indexes_built sizes coords options table spans stripes list bytes work =
    when_shaped table spans stripes list bytes work (shape_checked sizes coords) (indexed table spans stripes list bytes work options sizes coords)
