-- The first and the last point are compared by the bits of their coordinates, which are equal when the numbers are.
use mathlib.Core.Path.{ap₂}
use mathlib.Core.Bool.{◌&&◌}
use Prim.Native.Nat.{◌+◌, ◌*◌, ◌-◌}
use lib.ListN.{get_or}
use lib.IntN.{pos}
use mir.Syntax.{w32}
use Rattle.rings.proofs.Whole.{eq_bits}
use Rattle.rings.proofs.is_closed.Goals as goal

pub returns : goal.returns
returns c =
    let b = c in
    let a = b.args in
    let ring = a.coords.now in
    let last = (a.points - 1) * 2 in
    ap₂ ◌&&◌
    (eq_bits w32 (get_or ring 0 (pos 0)) (get_or ring last (pos 0)) (record { sfits = b.result-1.given }) (record { sfits = b.result-2-1.given }))
    (eq_bits w32 (get_or ring 1 (pos 0)) (get_or ring (last + 1) (pos 0)) (record { sfits = b.result-3-1.given }) (record { sfits = c.result-4-1.given }))
