use mathlib.Core.Path.{◌≡◌}
use lib.ListN.{length}
use Rattle.wkb_shape.specs.Wkb.{rings}
use Rattle.wkb_shape.specs.Inner.Laid.{end_of}
use Rattle.wkb_shape.proofs.Laid.{Passing}
use Rattle.wkb_shape.proofs.Reader.past_rings.Given as goal

-- of the reader that moves on, `.0` is its bytes, `.1.0` its order and `.1.1.0` its place
abbrev pub invariant-loop-k : goal.invariant-loop-k
invariant-loop-k l =
    let s = l.fn.self in
    (length l.self.0.now ≡ length s.bytes.now) × Passing l.self.0.now l.self.1.0 (end_of (rings s.bytes.now s.order l.n s.at)) l.n l.self.1.1.0 l._k
