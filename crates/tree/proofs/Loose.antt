-- A loose varint in any field of a node is told as 15 at its first byte, before its value is used: whatever the segment count, the depth and the part's end
-- would have made of it (02, CR 6). Assumes nothing.
use Rattle.std.specs.Prelude.{Err}
use Prim.Native.Nat.{ℕ, suc}
use mathlib.Core.Path.{◌≡◌}
use mathlib.Core.List.{List, []}
use mathlib.Core.Bool.{Bool}
use lib.ListN.{take}
use lib.Ieee.{Float}
use Rattle.answers.specs.declared.Refusal.TheVariants.{Loose}
use Rattle.boxes.specs.declared.Rect.{Rect}
use Rattle.varint.specs.Uvarint.{read_uvarint}
use Rattle.tree.specs.Search.{fails, own_from, own, Visit, child}

module _ (bytes : List ℕ) (ring : ℕ → Float) (segments : ℕ) (y : Float) (end p : ℕ) (loose : read_uvarint 64 (take end bytes) p ≡ Err (Loose p)) where
  pub loose_count : own bytes ring segments y end p ≡ ([], fails (Loose p))
  unfolding own
  loose_count = rw loose

  pub loose_difference : (n last : ℕ) → own_from bytes ring segments y end (suc n) last p ≡ ([], fails (Loose p))
  unfolding own_from
  loose_difference n last = rw loose

  pub loose_size : (deepest : Bool) (visit : Visit bytes ring segments y) (box : Rect) (q : ℕ) → child bytes ring segments y deepest visit box end q p ≡ ([], fails (Loose p))
  unfolding child
  loose_size deepest visit box q = rw loose
