-- Segment i goes from point i to point i + 1. Assumes nothing.
use Prim.Native.Nat.{ℕ, ◌+◌, ◌*◌}
use mathlib.Core.Path.{◌≡◌, ap₂}
use mathlib.Core.List.{List}
use native.Mathlib.Omega.{arith}
use lib.ListN.{get_or}
use lib.IntN.{ℤ, pos}
use Rattle.rings.specs.Ring.{point_at, segment_at}

pub segment_ends : (ring : List ℤ) (i : ℕ) → segment_at ring i ≡ record { a = point_at ring i; b = point_at ring (i + 1) }
segment_ends ring i =
    let first : i * 2 + 2 ≡ (i + 1) * 2 = omega arith in
    let second : i * 2 + 3 ≡ (i + 1) * 2 + 1 = omega arith in
    ap₂ (λ (j : ℕ) (k : ℕ). record { a = point_at ring i; b = record { x = get_or ring j (pos 0); y = get_or ring k (pos 0) } }) first second
