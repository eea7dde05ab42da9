-- `outline_build::Shaped::index_rings` meets its contract: between two rings the rooms stand as `Standing` says. Assumes nothing.
use mathlib.Core.Path.{◌≡◌}
use Prim.Native.Nat.{◌≤◌}
use lib.ListN.{length}
use Rattle.outline_build.specs.Inner.Standing.{Standing}
use Rattle.outline_build.proofs.Shaped.index_rings.Given as goal

abbrev pub invariant-loop-k : goal.invariant-loop-k
invariant-loop-k l =
    (l.k ≤ length l.self.sizes.now) × Standing l.self.options l.self.sizes.now l.self.coords.now l.initial.table l.initial.spans l.initial.stripes l.initial.list l.initial.bytes l.initial.work l.k l.at l.from l.table l.spans l.stripes l.list l.bytes l.work
    × (length l.table ≡ length l.initial.table) × (length l.spans ≡ length l.initial.spans) × (length l.stripes ≡ length l.initial.stripes) × (length l.list ≡ length l.initial.list)
    × (length l.bytes ≡ length l.initial.bytes) × (length l.work ≡ length l.initial.work)
