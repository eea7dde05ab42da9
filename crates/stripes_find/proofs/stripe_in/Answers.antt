-- `stripes_find::stripe_in` meets its contract. Assumes nothing.
use native.Mathlib.Omega.{arith}
use Prim.Native.Nat.{◌/◌}
use lib.ListN.{length}
use Rattle.stripes_place.proofs.Mono.{stripe_below}
use Rattle.stripes_find.proofs.stripe_in.Goals as goal

pub returns : goal.returns
returns c =
    let a = c.args in
    (c.stripe_of.ensures, omega (arith, c.stripe_of.ensures, stripe_below a.y a.least a.height (length a.stripes.now / 2) c.requires (omega arith)))
