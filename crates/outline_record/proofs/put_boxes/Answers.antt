use native.Mathlib.Omega.{arith}
use Prim.Native.Nat.{ℕ, ◌+◌, ◌*◌}
use mathlib.Core.Path.{refl, sym, ap, ap₂, ◌∙◌}
use mathlib.Core.List.{List}
use lib.ListN.{length}
use lib.IntN.{ℤ}
use Rattle.room.specs.Room.{write}
use Rattle.room.proofs.Write.{write_length}
use Rattle.outline_check.specs.Outline.{size_at}
use Rattle.outline_check.proofs.Starts.{start_none, start_more, part_within, part_is}
use Rattle.outline_record.specs.Record.{box_numbers}
use Rattle.outline_record.proofs.Boxes.{boxes_none, boxes_more}
use Rattle.outline_record.proofs.put_boxes.Goals as goal

pub loop-k-init : goal.loop-k-init
loop-k-init c = (omega arith, ap (λ (n : ℕ). 2 * n) (sym (start_none _)), boxes_none _ _ _, refl)

pub overflow_add-end : goal.overflow_add-end
overflow_add-end c = omega (arith, part_within c.args.sound.counted c.loop-k.k c.loop-k-test.true)

pub offset_bounds-sound-start : goal.offset_bounds-sound-start
offset_bounds-sound-start c = omega (arith, part_within c.args.sound.counted c.loop-k.k c.loop-k-test.true)

pub slice_bounds-put_box-end : goal.slice_bounds-put_box-end
slice_bounds-put_box-end c = omega (arith, part_within c.args.sound.counted c.loop-k.k c.loop-k-test.true)

pub loop-k-preserved : goal.loop-k-preserved
loop-k-preserved c =
    let l = c.loop-k in
    let a = c.args in
    let e = part_is a.sound.sizes.now a.sound.coords.now l.k l.start (l.start + 2 * size_at a.sound.sizes.now l.k) l.invariant.1 refl in
    let n = size_at a.sound.sizes.now l.k in (
      omega arith,
      omega (arith, l.invariant.1, start_more a.sound.sizes.now l.k),
      c.put_box.ensures
          ∙ ap₂ (λ (o ring : List ℤ). write o (4 * l.k) (box_numbers ring n)) l.invariant.2 e
          ∙ boxes_more a.sound.sizes.now a.sound.coords.now a.out.now l.k,
      ap length c.put_box.ensures ∙ write_length l.out (4 * l.k) _ ∙ l.invariant.3,
    )
