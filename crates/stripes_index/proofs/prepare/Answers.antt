-- `stripes_index::prepare` meets its contract. Assumes nothing.
use mathlib.Core.Path.{ap₂, ◌∙◌}
use lib.ListN.{length}
use native.Mathlib.Omega.{arith}
use Rattle.rings.specs.Ring.{wide}
use Rattle.room.specs.Room.{pad}
use Rattle.stripes_index.specs.Index.{crosses}
use Rattle.stripes_index.proofs.Turns.{part_length}
use Rattle.stripes_index.proofs.Starts.{counted, counted_form, counted_entries, counted_fullest, counted_table}
use Rattle.stripes_index.proofs.prepare.Goals as goal

pub place_starts-requires : goal.place_starts-requires
place_starts-requires c =
    let a = c.args in
    let cross = crosses (wide a.ring.now) a.cut.least a.cut.height a.cut.stripes in
    let w = c.count_all.ensures in
    let e = c.count_all.auto.stripes in
    record {
      m_bound = (
        omega arith,
        omega arith,
        λ s h. omega (arith, counted cross a.n a.cut.stripes (length a.stripes.now) _ w s h, part_length cross a.n s),
      );
      stripes_value = counted_form cross a.n a.cut.stripes (length a.stripes.now) _ w e;
    }

pub returns : goal.returns
returns c =
    let a = c.args in
    let cross = crosses (wide a.ring.now) a.cut.least a.cut.height a.cut.stripes in
    let w = c.count_all.ensures in
    let e = c.count_all.auto.stripes in
    record {
      entries_value = (
        c.place_starts.ensures.entries_value.0 ∙ counted_entries cross a.n a.cut.stripes (length a.stripes.now) _ w,
        c.place_starts.ensures.entries_value.1 ∙ counted_fullest cross a.n a.cut.stripes (length a.stripes.now) _ w,
      );
      stripes_after = c.place_starts.ensures.stripes_after ∙ ap₂ pad e (counted_table cross a.n a.cut.stripes (length a.stripes.now) _ w);
    }
