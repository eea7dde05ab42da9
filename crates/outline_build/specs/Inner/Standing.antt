-- What the rooms hold between the rings.
use Rattle.std.specs.Prelude.{ℕ, ◌*◌, ◌≤◌, ◌≡◌, List, Bool, true, false, length, replicate, ℤ, Float}
use Rattle.room.specs.Room.{pad}
use Rattle.outline_check.specs.Outline.{rings, start_of}
use Rattle.outline_index.specs.declared.BuildOptions.{BuildOptions}
use Rattle.outline_index.specs.declared.Places.{Places}
use Rattle.outline_index.specs.Pools.{pad_with, every}
use Rattle.outline_index.specs.Parts.{no_height}
use Rattle.outline_build.specs.Indexes.{stripes_to, list_to, bytes_to, spans_to, rows_to, calls, roomy}

-- all rooms are zero
pub record Zero (table : List ℕ) (spans : List Float) (stripes list bytes work : List ℕ) : Type 0 where
  pub rows : table ≡ replicate (length table) 0
  pub heights : spans ≡ replicate (length spans) no_height
  pub pairs : stripes ≡ replicate (length stripes) 0
  pub entries : list ≡ replicate (length list) 0
  pub packed : bytes ≡ replicate (length bytes) 0
  pub numbers : work ≡ replicate (length work) 0

module _ (options : BuildOptions) (sizes : List ℕ) (coords : List ℤ) (T : List ℕ) (F : List Float) (S L B W : List ℕ) where
  -- k rings are built in rooms as long as those
  pub record Standing (k : ℕ) (at : Places) (from : ℕ) (t : List ℕ) (f : List Float) (s l b w : List ℕ) : Type 0 where
    pub start : from ≡ 2 * start_of sizes k
    pub stripes_at : at.stripes ≡ length (stripes_to options sizes coords k)
    pub list_at : at.list ≡ length (list_to options sizes coords k)
    pub bytes_at : at.bytes ≡ length (bytes_to options sizes coords k)
    pub stripes_fit_of : at.stripes ≤ length S
    pub list_fit : at.list ≤ length L
    pub bytes_fit : at.bytes ≤ length B
    pub rows : t ≡ pad (length T) (rows_to options sizes coords k)
    pub heights : f ≡ pad_with no_height (length F) (spans_to options sizes coords k)
    pub pairs : s ≡ pad (length S) (stripes_to options sizes coords k)
    pub entries : l ≡ pad (length L) (list_to options sizes coords k)
    pub packed : b ≡ pad (length B) (bytes_to options sizes coords k)
    pub numbers : w ≡ replicate (length W) 0
    pub called : every (calls options sizes coords W) k ≡ true

  -- all rings are built, or the room is short; then what the rooms hold is left open, since the caller fills them with zeros
  unfoldable pub AllBuilt : Bool → List ℕ → List Float → List ℕ → List ℕ → List ℕ → List ℕ → Type 0
  AllBuilt true t f s l b w =
      (roomy T F S L B W options sizes coords ≡ true) × (t ≡ pad (length T) (rows_to options sizes coords (rings sizes)))
      × (f ≡ pad_with no_height (length F) (spans_to options sizes coords (rings sizes))) × (s ≡ pad (length S) (stripes_to options sizes coords (rings sizes)))
      × (l ≡ pad (length L) (list_to options sizes coords (rings sizes))) × (b ≡ pad (length B) (bytes_to options sizes coords (rings sizes)))
      × (w ≡ replicate (length W) 0)
  AllBuilt false t f s l b w = roomy T F S L B W options sizes coords ≡ false
