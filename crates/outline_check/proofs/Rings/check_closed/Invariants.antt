use Prim.Native.Nat.{◌*◌}
use mathlib.Core.Path.{◌≡◌}
use lib.ListN.{length}
use Rattle.answers.specs.declared.Refusal.TheVariants.{NotClosed}
use Rattle.outline_check.specs.Outline.{start_of}
use Rattle.outline_check.specs.Rules.{shut}
use Rattle.outline_check.proofs.Rules.{Walking}
use Rattle.outline_check.proofs.Rings.check_closed.Given as goal

abbrev pub invariant-loop-k : goal.invariant-loop-k
invariant-loop-k l = (l.start ≡ 2 * start_of l.self.sizes.now l.k) × Walking (shut l.self.sizes.now l.self.coords.now) NotClosed (length l.self.sizes.now) l.k
