use Rattle.std.proofs.Common.{◌≡◌, ℕ, ◌+◌, ◌*◌, ◌≤◌, Bool, length}
use Rattle.wkb_shape.specs.Wkb.{Ring}
use Rattle.wkb_shape.specs.Inner.Laid.{points_of}
use Rattle.wkb_read.proofs.Walk.{Along, Going}
use Rattle.wkb_read.proofs.Polygon.each_ring.Given as goal

-- the walk is at ring k; and whatever rule it is that the closure decides, from ring k on it finds what it finds from the first
abbrev pub invariant-loop-k : goal.invariant-loop-k
invariant-loop-k g l =
    Along l.self.bytes.now l.self.order l.self.rings l.at l.k
    × ((ok : Ring → Bool)
    → ((at n : ℕ) (r : Bool) → at + 16 * n ≤ length l.self.bytes.now → goal.F-post g l.rule at n r → r ≡ ok (points_of l.self.bytes.now l.self.order n at))
    → Going l.self.bytes.now l.self.order ok l.self.rings l.at l.k)
