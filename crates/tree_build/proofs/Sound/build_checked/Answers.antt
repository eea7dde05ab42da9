-- `tree_build::Sound::build_checked` meets its contract. Assumes nothing.
use Rattle.std.specs.Prelude.{Err}
use Prim.Native.Nat.{ℕ, ◌-◌}
use mathlib.Core.Path.{sym, ap, ◌∙◌}
use mathlib.Core.List.{List}
use lib.ListN.{length, replicate}
use Rattle.answers.specs.declared.Refusal.TheVariants.{NoRoom}
use Rattle.rings.specs.Ring.{wide}
use Rattle.tree_build.specs.Inner.Steps.{Bytes}
use Rattle.tree_build.proofs.Building.{packed_short, packed_rest, rest_length}
use Rattle.tree_build.proofs.Sound.build_checked.Goals as goal

pub returns-then-work-n : goal.returns-then-work-n
returns-then-work-n c =
    packed_short (wide c.args.self.ring.now) c.args.self.points c.args.bytes.now c.args.work.now c.if-work-n.true
    ∙ ap (λ (x : List ℕ). (Err NoRoom, x, replicate (length c.args.work.now) 0)) (sym c.requires)

pub returns : goal.returns
returns c =
    packed_rest (wide c.args.self.ring.now) c.args.self.points c.args.bytes.now c.args.work.now c.if-work-n.false _ (rest_length (c.args.self.points - 1) c.args.work.now)
    ∙ ap (λ (o : Bytes). (o.0, o.1, replicate (length c.args.work.now) 0)) c.grow_and_pack.ensures
