-- `stripes_build::Sound::build_sound` meets its contract. Assumes nothing.
use Rattle.std.specs.Prelude.{Ok, None}
use mathlib.Core.Path.{sym, ap, ap₂, ◌∙◌}
use mathlib.Core.List.{List}
use Prim.Native.Nat.{ℕ}
use lib.ListN.{replicate}
use Rattle.rings.specs.Ring.{wide}
use Rattle.stripes_build.proofs.Building.{from_under, from_reached, indexed_room}
use Rattle.stripes_build.proofs.Sound.build_sound.Goals as goal

pub returns-then-self-threshold : goal.returns-then-self-threshold
returns-then-self-threshold c =
    let a = c.args in
    from_under (wide a.self.ring.now) a.self.segments a.threshold a.stripes.now a.list.now c.if-self-threshold.true
    ∙ ap₂ (λ (x y : List ℕ). (Ok None, x, y)) (sym (c.fill.ensures.after (λ _ e. e))) (sym (c.fill-2.ensures.after (λ _ e. e)))

pub build_checked-requires : goal.build_checked-requires
build_checked-requires c =
    record {
      stripes_value = (c.fill.ensures.after (λ _ e. e)) ∙ ap (λ (k : ℕ). replicate k 0) (sym c.fill.auto.self);
      list_value = (c.fill-2.ensures.after (λ _ e. e)) ∙ ap (λ (k : ℕ). replicate k 0) (sym c.fill-2.auto.self);
    }

pub returns : goal.returns
returns c =
    let a = c.args in
    from_reached (wide a.self.ring.now) a.self.segments a.threshold a.stripes.now a.list.now c.if-self-threshold.false
    ∙ indexed_room (wide a.self.ring.now) a.self.segments a.stripes.now _ a.list.now _ (sym c.fill.auto.self) (sym c.fill-2.auto.self)
    ∙ c.build_checked.ensures
