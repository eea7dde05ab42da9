-- `stripes_index::Cut::crossed` meets its contract. Assumes nothing.
use mathlib.Core.Path.{◌≡◌}
use native.Mathlib.Omega.{arith}
use Rattle.rings.specs.Ring.{wide}
use Rattle.stripes_place.proofs.Mono.{stripe_below}
use Rattle.stripes_index.specs.Index.{high_end, first_stripe, last_stripe}
use Rattle.stripes_index.proofs.Cut.crossed.Goals as goal

pub returns : goal.returns
returns c =
    let a = c.args in
    let e : c.stripe_of-first.result ≡ first_stripe (wide a.ring.now) a.self.least a.self.height a.self.stripes a.i = simp (c.stripe_of-first.ensures, c.low_end.ensures) in
    let f : c.stripe_of-last.result ≡ last_stripe (wide a.ring.now) a.self.least a.self.height a.self.stripes a.i = simp (c.stripe_of-last.ensures, c.high_end.ensures) in
    (e, f, omega (arith, f, stripe_below (high_end (wide a.ring.now) a.i) a.self.least a.self.height a.self.stripes c.requires.i_bound.1 (omega arith)))
