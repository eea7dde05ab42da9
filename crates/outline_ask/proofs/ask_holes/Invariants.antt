-- The invariant: ring k starts at `at`, and the holes before it have settled nothing.
use mathlib.Core.Path.{◌≡◌}
use mathlib.Core.Bool.{false}
use Prim.Native.Nat.{◌*◌}
use lib.ListN.{length}
use Rattle.outline_check.specs.Outline.{start_of}
use Rattle.outline_ask.specs.Inner.Tests.{on_rings}
use Rattle.outline_ask.proofs.Rings.{Unsettled}
use Rattle.outline_ask.proofs.ask_holes.Given as goal

abbrev pub invariant-loop-k : goal.invariant-loop-k
invariant-loop-k g l =
    (l.at ≡ 2 * start_of l.sound.sizes.now l.k) × Unsettled (λ j. on_rings (g.T.RingTest.asked l.test) l.sound.sizes.now l.sound.coords.now j false) (length l.sound.sizes.now) l.k
