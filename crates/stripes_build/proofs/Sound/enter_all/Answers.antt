-- `stripes_build::Sound::enter_all` meets its contract. The invariant: the first i segments are entered. Assumes nothing.
use mathlib.Core.Path.{◌≡◌, ap, ◌∙◌}
use Prim.Native.Nat.{ℕ}
use lib.ListN.{length}
use native.Mathlib.Omega.{arith}
use Rattle.room.specs.Room.{pad}
use Rattle.stripes_index.specs.Index.{crosses}
use Rattle.stripes_index.specs.Inner.States.{table_at, list_at_of}
use Rattle.stripes_index.proofs.Entering.{list_zero, list_full}
use Rattle.rings.specs.Ring.{wide}
use Rattle.stripes_build.proofs.Sound.enter_all.Goals as goal

pub loop-i-init : goal.loop-i-init
loop-i-init c =
    let a = c.args in
    let p = c.requires in
    record {
      table = p.stripes_value;
      numbers = p.list_value ∙ list_zero (crosses (wide a.self.ring.now) a.cut.least a.cut.height a.cut.stripes) a.cut.stripes a.self.segments (length a.list.now) p.m_in_bounds;
    }

pub enter_segment-requires : goal.enter_segment-requires
enter_segment-requires c =
    let l = c.loop-i in
    record {
      i_bound = (omega arith, omega arith, omega arith);
      m_in_bounds = rw l.auto.list c.requires.m_in_bounds;
      stripes_value = rw l.auto.stripes l.invariant.table;
      list_value = rw l.auto.list l.invariant.numbers;
    }

pub loop-i-preserved : goal.loop-i-preserved
loop-i-preserved c =
    record {
      table = rw (← c.loop-i.auto.stripes) c.enter_segment.ensures.stripes_after;
      numbers = rw (← c.loop-i.auto.list) c.enter_segment.ensures.list_after;
    }

pub returns : goal.returns
returns c =
    let l = c.loop-i in
    let a = c.args in
    let cross = crosses (wide a.self.ring.now) a.cut.least a.cut.height a.cut.stripes in
    let last : l.i ≡ a.self.segments = omega arith in
    record {
      stripes_after = l.invariant.table ∙ ap (λ (i : ℕ). pad (length a.stripes.now) (table_at cross a.cut.stripes a.self.segments i)) last;
      list_after = l.invariant.numbers ∙ ap (λ (i : ℕ). pad (length a.list.now) (list_at_of cross a.cut.stripes a.self.segments i)) last ∙ ap (pad (length a.list.now)) (list_full cross a.cut.stripes a.self.segments);
    }
