-- 02, CR 1: reading an outline, with what it leaves in the two rooms. "Order: 5; then 10 and 11 in reading order; then, over the whole shape, 1, 2, 12, 4
-- .. and last 8; 3 can't occur here, and only 8 touches the room."
use Rattle.std.specs.Prelude.{Result, Ok, Err, ℕ, List, cond, ◌&&◌, leb, length, replicate, ℤ, pos, Float}
use Rattle.answers.specs.declared.Refusal.TheVariants.{BadScale, NoRoom}
use Rattle.room.specs.Room.{pad}
use Rattle.outline_check.specs.Rules.{sound_scale}
use Rattle.outline_record.specs.Made.{pad_z}
use Rattle.wkb_fields.specs.declared.ByteOrder.{ByteOrder}
use Rattle.wkb_shape.specs.declared.WkbRefusal.{WkbRefusal}
use Rattle.wkb_shape.specs.declared.WkbRefusal.TheVariants.{Plain}
use Rattle.wkb_shape.specs.Wkb.{Shape, Got, got, stop, whole}
use Rattle.wkb_read.specs.Judged.{Judged}
use Rattle.wkb_read.specs.Stored.{sizes_of, coords_of}
use Rattle.wkb_read.specs.Judged.{judged}

-- What reading answers: how many rings and how many numbers were stored, or a refusal.
abbrev pub ReadWkb : Type 0
ReadWkb = Result (ℕ × ℕ) WkbRefusal

-- the answer, and both rooms
abbrev pub Outcome : Type 0
Outcome = ReadWkb × List ℕ × List ℤ

module _ (sizes : List ℕ) (coords : List ℤ) where
  abbrev pub refused : WkbRefusal → Outcome
  refused why = (Err why, sizes, coords)

  -- "After success, output past the used part is zero"; 8 fills all of it with zeros
  unfoldable pub stored : Float → Shape → Outcome
  stored scale shape =
      cond (leb (length (sizes_of shape)) (length sizes) && leb (length (coords_of scale shape)) (length coords))
      (Ok (length (sizes_of shape), length (coords_of scale shape)), pad (length sizes) (sizes_of shape), pad_z (length coords) (coords_of scale shape))
      (Err (Plain NoRoom), replicate (length sizes) 0, replicate (length coords) (pos 0))

  unfoldable pub after_judged : Float → Shape → Judged → Outcome
  after_judged scale shape (Ok _) = stored scale shape
  after_judged scale shape (Err why) = refused why

  unfoldable pub after_whole : Float → Got (ByteOrder × Shape) → Outcome
  after_whole scale (got (order, shape) end) = after_judged scale shape (judged scale shape)
  after_whole scale (stop why) = refused why

  unfoldable pub wkb_read : Float → List ℕ → Outcome
  wkb_read scale bytes = cond (sound_scale scale) (after_whole scale (whole bytes)) (refused (Plain BadScale))
