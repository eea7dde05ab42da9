-- One ring's step: its parts behind those of the rings before it, in rooms that are zero behind those.
use Rattle.std.specs.Prelude.{Ok, Err, Option, Some, None, ℕ, ◌+◌, ◌≤◌, ◌≡◌, List, [], ◌∷◌, ◌++◌, Bool, true, false, cond, ◌&&◌, leb, length, take, Float}
use Rattle.answers.specs.declared.Refusal.TheVariants.{NoRoom}
use Rattle.room.specs.Numbers.{bit}
use Rattle.room.specs.Room.{pad}
use Rattle.rings.specs.Ring.{segments}
use Rattle.stripes_index.specs.Index.{least_y, height_y}
use Rattle.stripes_build.specs.Build.{StripesBuilt, stats_of}
use Rattle.tree_build.specs.Build.{TreeBuilt, tree_bytes}
use Rattle.outline_index.specs.declared.BuildOptions.{BuildOptions}
use Rattle.outline_index.specs.declared.Places.{Places}
use Rattle.outline_index.specs.declared.Gain.{Gain}
use Rattle.outline_index.specs.Parts.{no_height, has_stripes, has_tree, says_under, stripes_part, list_part, bytes_part, least_in, height_in, stripes_in, entries_in, fullest_in, kinds_in, few_stripes, enough_work}

-- zeros from a place on
abbrev pub ZeroFrom : ℕ → List ℕ → Type 0
ZeroFrom at xs = (at ≤ length xs) × (xs ≡ pad (length xs) (take at xs))

-- a part behind what stands before a place, and zeros behind it
abbrev pub behind : ℕ → List ℕ → List ℕ → List ℕ
behind at xs part = pad (length xs) (take at xs ++ part)

-- what one ring got, or that the room is short
abbrev pub Gained : Type 0
Gained = Option Gain

-- what the two builds come to together
abbrev pub with_tree : Gain → TreeBuilt → Gained
with_tree g (Ok (Some n)) =
    Some (record { kinds = g.kinds + 2; least = g.least; height = g.height; stripes = g.stripes; entries = g.entries; fullest = g.fullest; bytes = n })
with_tree g (Ok None) = Some g
with_tree g (Err why) = None

abbrev pub gained : StripesBuilt → TreeBuilt → Gained
gained (Ok (Some s)) t =
    with_tree (record { kinds = 1; least = s.least; height = s.height; stripes = s.stats.stripes; entries = s.stats.entries; fullest = s.stats.fullest; bytes = 0 }) t
gained (Ok None) t = with_tree (record { kinds = 0; least = no_height; height = no_height; stripes = 0; entries = 0; fullest = 0; bytes = 0 }) t
gained (Err why) t = None

-- the row of a ring of n segments, and its span, by what it got
abbrev pub row_numbers : ℕ → BuildOptions → Places → Gain → List ℕ
row_numbers n options at g =
    n ∷ bit (says_under options n) ∷ g.kinds ∷ at.stripes ∷ g.stripes ∷ at.list ∷ g.entries ∷ g.fullest ∷ at.bytes ∷ g.bytes ∷ []

module _ (options : BuildOptions) (ring : ℕ → Float) (points : ℕ) where
  -- ---- its stripes
  abbrev pub stripes_fit : Places → List ℕ → List ℕ → Bool
  stripes_fit at stripes list =
      few_stripes options ring points && leb (at.stripes + length (stripes_part options ring points)) (length stripes)
      && leb (at.list + length (list_part options ring points)) (length list)

  abbrev pub stripes_answer : StripesBuilt
  stripes_answer =
      cond (has_stripes options (segments points))
      (Ok (Some (record { least = least_y ring (segments points); height = height_y ring (segments points); stats = stats_of ring (segments points) })))
      (Ok None)

  unfoldable pub stripes_put : Places → List ℕ → List ℕ → StripesBuilt × List ℕ × List ℕ
  stripes_put at stripes list =
      cond (stripes_fit at stripes list) (
        stripes_answer,
        behind at.stripes stripes (stripes_part options ring points),
        behind at.list list (list_part options ring points),
      )
      (Err NoRoom, stripes, list)

  -- ---- its tree; the work room is zero, before and after
  abbrev pub tree_fits : Places → List ℕ → List ℕ → Bool
  tree_fits at bytes work = enough_work options ring points work && leb (at.bytes + length (bytes_part options ring points)) (length bytes)

  abbrev pub tree_answer : TreeBuilt
  tree_answer = cond (has_tree options (segments points)) (Ok (Some (length (tree_bytes ring points)))) (Ok None)

  unfoldable pub tree_put : Places → List ℕ → List ℕ → TreeBuilt × List ℕ × List ℕ
  tree_put at bytes work =
      cond (tree_fits at bytes work) (tree_answer, behind at.bytes bytes (bytes_part options ring points), work) (Err NoRoom, bytes, work)

  -- ---- both
  abbrev pub gain_in : Gain
  gain_in =
      record {
        kinds = kinds_in options ring points;
        least = least_in options ring points;
        height = height_in options ring points;
        stripes = stripes_in options ring points;
        entries = entries_in options ring points;
        fullest = fullest_in options ring points;
        bytes = length (bytes_part options ring points);
      }

  -- where all fits; where it does not, what the rooms hold is left open, since the caller fills them with zeros
  unfoldable pub Stepped : Bool → Places → List ℕ → List ℕ → List ℕ → List ℕ → Gained → List ℕ → List ℕ → List ℕ → List ℕ → Type 0
  Stepped true at stripes list bytes work r s l b w =
      (r ≡ Some gain_in) × (s ≡ behind at.stripes stripes (stripes_part options ring points))
      × (l ≡ behind at.list list (list_part options ring points)) × (b ≡ behind at.bytes bytes (bytes_part options ring points)) × (w ≡ work)
  Stepped false at stripes list bytes work r s l b w = r ≡ None
