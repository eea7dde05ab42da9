-- `stripes_build::Sound::fill` meets its contract. Assumes nothing.
use Rattle.std.specs.Prelude.{Err}
use mathlib.Core.Path.{sym, ap, ap₂, ◌∙◌}
use mathlib.Core.List.{List}
use Prim.Native.Nat.{ℕ}
use lib.ListN.{length, replicate}
use native.Mathlib.Omega.{arith}
use Rattle.answers.specs.declared.Refusal.TheVariants.{NoRoom}
use Rattle.room.specs.Room.{pad}
use Rattle.rings.specs.Ring.{wide}
use Rattle.stripes_index.specs.Index.{crosses, table_of, list_of}
use Rattle.stripes_index.specs.Inner.States.{table_at}
use Rattle.stripes_build.specs.Build.{striped, Outcome}
use Rattle.stripes_build.proofs.Building.{filled_fits, filled_short}
use Rattle.stripes_build.proofs.Sound.fill.Goals as goal

pub prepare-totals-requires : goal.prepare-totals-requires
prepare-totals-requires c =
    let p = c.requires in
    record {
      n_bound = (omega arith, omega arith, omega arith, omega arith, omega arith);
      stripes_value = p.stripes_value;
    }

pub returns-then-list-totals : goal.returns-then-list-totals
returns-then-list-totals c =
    let a = c.args in
    filled_short (wide a.self.ring.now) a.self.segments a.cut.least a.cut.height a.cut.stripes a.stripes.now a.list.now (omega (arith, c.prepare-totals.ensures.entries_value.0, c.if-list-totals.true))
    ∙ ap₂ (λ (s l : List ℕ). (Err NoRoom, s, l)) (sym (c.fill.ensures.after (λ _ e. e) ∙ ap (λ (j : ℕ). replicate j 0) c.prepare-totals.auto.stripes)) (sym c.requires.list_value)

pub enter_all-requires : goal.enter_all-requires
enter_all-requires c =
    let a = c.args in
    let cross = crosses (wide a.self.ring.now) a.cut.least a.cut.height a.cut.stripes in
    let e = c.prepare-totals.auto.stripes in
    record {
      m_bound = (omega arith, omega arith);
      m_in_bounds = omega (arith, c.prepare-totals.ensures.entries_value.0, c.if-list-totals.false);
      stripes_value = c.prepare-totals.ensures.stripes_after ∙ ap (λ (j : ℕ). pad j (table_at cross a.cut.stripes a.self.segments 0)) (sym e);
      list_value = c.requires.list_value;
    }

pub returns : goal.returns
returns c =
    let a = c.args in
    let cross = crosses (wide a.self.ring.now) a.cut.least a.cut.height a.cut.stripes in
    let e = c.prepare-totals.auto.stripes in
    let made : ℕ → ℕ → List ℕ → List ℕ → Outcome =
    λ e f s l. (striped a.cut.least a.cut.height (record { segments = a.self.segments; stripes = a.cut.stripes; entries = e; fullest = f }), s, l) in
    filled_fits (wide a.self.ring.now) a.self.segments a.cut.least a.cut.height a.cut.stripes a.stripes.now a.list.now (omega (arith, c.prepare-totals.ensures.entries_value.0, c.if-list-totals.false))
    ∙ ap₂ (λ (e f : ℕ). made e f (pad (length a.stripes.now) (table_of cross a.self.segments a.cut.stripes)) (pad (length a.list.now) (list_of cross a.self.segments a.cut.stripes)))
    (sym c.prepare-totals.ensures.entries_value.0) (sym c.prepare-totals.ensures.entries_value.1)
    ∙ ap₂ (λ (s l : List ℕ). made c.prepare-totals.result.entries c.prepare-totals.result.fullest s l)
    (sym (c.enter_all.ensures.stripes_after ∙ ap (λ (j : ℕ). pad j (table_of cross a.self.segments a.cut.stripes)) e))
    (sym c.enter_all.ensures.list_after)
