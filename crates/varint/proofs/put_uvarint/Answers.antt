-- `varint::put_uvarint` meets its contract. A number has at least one byte, so a place past the end is too late too.
use mathlib.Core.Path.{sym, ap₂, ◌∙◌}
use mathlib.Core.List.{List}
use Prim.Native.Nat.{ℕ}
use native.Mathlib.Omega.{arith}
use Rattle.std.specs.Prelude.{Some}
use Rattle.room.proofs.Pour.{put_fits, put_short}
use Rattle.varint.proofs.Leb128.{encode_some}
use Rattle.varint.proofs.put_uvarint.Goals as goal

pub returns-then-saturating_sub-uvarint_len : goal.returns-then-saturating_sub-uvarint_len
returns-then-saturating_sub-uvarint_len c = put_short _ _ _ (omega (arith, c.uvarint_len.ensures, c.saturating_sub.ensures))

pub write_uvarint-requires : goal.write_uvarint-requires
write_uvarint-requires c = omega (arith, c.uvarint_len.ensures, c.saturating_sub.ensures, encode_some c.args.x)

pub returns : goal.returns
returns c = let w = c.write_uvarint in
    put_fits _ _ _ (omega (arith, c.uvarint_len.ensures, c.saturating_sub.ensures, encode_some c.args.x))
    ∙ sym (ap₂ (λ (n : ℕ) (o : List ℕ). (Some n, o)) w.ensures.0 w.ensures.1)
