-- `rays::cast` meets its contract. The bounds of the heights are those of an i32. Assumes nothing.
use mathlib.Core.Path.{◌≡◌, sym, subst}
use lib.Dec.{T}
use borrow.Author.Rules.{rules}
use Rattle.rays.specs.Raycast.{ends, at, raycast_of}
use Rattle.rays.proofs.Halves.{near}
use Rattle.rays.proofs.Rest.{answers}
use Rattle.rays.proofs.cast.Goals as goal

pub returns : goal.returns
unfolding raycast_of
returns c =
    let v = c.args in
    let f = c.ranges in
    let e : c.moved_once.result ≡ raycast_of (ends v.ax v.ay v.bx v.by) (at v.px v.py) = search rules in
    record {
      steps = answers (ends v.ax v.ay v.bx v.by) (at v.px v.py) c.moved_once.result (near v.ay f.ay.sfits) (near v.by f.by.sfits) (subst T (sym c.well_formed.1.1.1.1.1.0.1) tt) e;
      computed = e;
    }
