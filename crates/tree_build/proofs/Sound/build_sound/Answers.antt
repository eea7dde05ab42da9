-- `tree_build::Sound::build_sound` meets its contract. Assumes nothing.
use mathlib.Core.Path.{refl, sym, ◌∙◌}
use Rattle.rings.specs.Ring.{wide}
use Rattle.tree_build.proofs.Building.{from_under, from_reached, packed_room}
use Rattle.tree_build.proofs.Sound.build_sound.Goals as goal
use Rattle.tree_build.proofs.Sound.build_sound.Goals.{then-self-threshold, else-self-threshold}

pub returns : goal.returns
returns c =
    elim c.if-self-threshold.branch [
      | then-self-threshold w ↦
          from_under (wide c.args.self.ring.now) c.args.self.points c.args.threshold c.args.bytes.now c.args.work.now w.if-self-threshold.true
          ∙ rw (w.built-is, w.bytes-is, c.fill.ensures.after (λ _ e. e), c.fill-2.ensures.after (λ _ e. e), w.work-is)
      | else-self-threshold w ↦
          from_reached (wide c.args.self.ring.now) c.args.self.points c.args.threshold c.args.bytes.now c.args.work.now w.if-self-threshold.false
          ∙ packed_room (wide c.args.self.ring.now) c.args.self.points c.args.bytes.now _ c.args.work.now c.args.work.now (sym c.fill.auto.self) refl
          ∙ w.build_checked-built.ensures
          ∙ rw (w.built-is, w.bytes-is, c.fill-2.ensures.after (λ _ e. e), w.work-is, w.build_checked-built.auto.work)
    ]
