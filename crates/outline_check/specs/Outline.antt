-- An outline as it is lent: all rings' numbers one after the other, two a point, and the point count of each ring, exterior first.
use Rattle.std.specs.Prelude.{ℕ, zero, suc, ◌+◌, ◌*◌, List, length, get_or, take, drop, ℤ, Float}
use Rattle.outline_check.specs.declared.RaycastMode.{RaycastMode}
use Rattle.outline_check.specs.declared.Outline.{Outline}

-- "Rings are numbered from 0"
abbrev pub rings : List ℕ → ℕ
rings sizes = length sizes

-- the point count of ring k
abbrev pub size_at : List ℕ → ℕ → ℕ
size_at sizes k = get_or sizes k 0

-- how many points stand before ring k
unfoldable pub start_of : List ℕ → ℕ → ℕ
start_of sizes zero = 0
start_of sizes (suc k) = start_of sizes k + size_at sizes k

-- the numbers of ring k
unfoldable pub ring_of : List ℕ → List ℤ → ℕ → List ℤ
ring_of sizes coords k = take (2 * size_at sizes k) (drop (2 * start_of sizes k) coords)

-- an outline's scale and mode
abbrev pub outline_of : Float → RaycastMode → Outline
outline_of scale mode = record { scale = scale; mode = mode }
