-- `varint::read_uvarint` meets its contract. The loop's invariant: the whole reading is the reading from here on, what was
-- read is below the next byte's weight, the tenth byte's weight is 2 ^ 63, and ten bytes are read or left.
use mathlib.Core.Path.{◌≡◌}
use Prim.Native.Nat.{ℕ, ◌<◌, ◌+◌, ◌-◌, ◌^◌}
use lib.ListN.{take}
use Rattle.varint.specs.Uvarint.{read_uvarint}
use Rattle.varint.proofs.Reading.{read_at_lem}
use Rattle.varint.proofs.Weights.{Weight}
use Rattle.varint.proofs.read_uvarint.Given as goal

abbrev pub top : ℕ
top = 2 ^ 63

abbrev pub invariant-loop-p : goal.invariant-loop-p
invariant-loop-p l = record {
  onward : read_uvarint 64 (take l.end l.src) l.at ≡ read_at_lem 64 l.at l.src l.end (l.at + 10 - l.p) l.p l.x l.weight;
  weighs : Weight top (l.at + 10 - l.p) l.weight;
  below : l.x < l.weight;
  ten : l.p < l.at + 10;
}
