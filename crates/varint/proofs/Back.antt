-- Reading what was written gives the number back, and the next place, over the width.
use Rattle.std.specs.Prelude.{Ok, Some}
use Prim.Native.Nat.{ℕ, ◌+◌, ◌-◌, ◌^◌, ◌≤◌, ◌<◌}
use mathlib.Core.Path.{◌≡◌, refl, ap, ap₂, ◌∙◌}
use mathlib.Core.List.{List, ◌++◌, append_assoc}
use mathlib.Core.Bool.{true}
use native.Mathlib.Omega.{arith}
use lib.ListN.{length, take, drop, replicate, length-append}
use lib.Seq.{drop_at, length-take-le}
use lib.Dec.{lit<}
use borrow.Author.Tests.{eq-eqb, lt-ltb}
use Rattle.room.specs.Room.{write, Holds, pad, padded}
use Rattle.room.specs.Inner.Pour.{put_of}
use Rattle.room.proofs.Holds.{drop_holds, holds_drop, holds_take, holds_write}
use Rattle.room.proofs.Pour.{put_past}
use Rattle.varint.specs.Leb128.{decode, size, encode}
use Rattle.varint.specs.Uvarint.{tight, read_uvarint, append_uvarint}
use Rattle.varint.proofs.Leb128.{encode_back, encode_size, encode_width}
use Rattle.varint.proofs.Writing.{appended}
use Rattle.varint.proofs.Answers.{read_fits}

module _ (w : ℕ) (bits : 0 < w) (x : ℕ) (small : x < 2 ^ w) where
  -- wherever a number's bytes stand in a part, whatever stands around them
  pub holds_reads : (part : List ℕ) (at : ℕ) → Holds part at (encode x)
      → read_uvarint w part at ≡ Ok (x, at + length (encode x))
  holds_reads part at h =
      let rest = drop (at + length (encode x)) part in
      let f = holds_drop part at (encode x) h in
      let s : size (drop at part) ≡ length (encode x) = ap size f ∙ encode_size rest x in
      let d : decode (drop at part) ≡ x = ap decode f ∙ encode_back rest x in
      let l = ap length f ∙ length-append (encode x) rest in
      let good : tight w (drop at part) ≡ true = rw (s, d, eq-eqb (length (encode x)) (length (encode x)) refl, lt-ltb x (2 ^ w) small) in
      read_fits w part at (omega (arith, encode_width w x bits small)) good
      ∙ ap₂ (λ (v k : ℕ). Ok (v, at + k)) d s

  -- a number written where it fits, in any part that has it whole
  pub written_reads : (out : List ℕ) (at end : ℕ) → at + length (encode x) ≤ end → at + length (encode x) ≤ length out
      → read_uvarint w (take end (write out at (encode x))) at ≡ Ok (x, at + length (encode x))
  written_reads out at end f l =
      holds_reads (take end (write out at (encode x))) at
      (holds_take (write out at (encode x)) at end (encode x) f (holds_write out at (encode x) l))

  holds_pad : (out : List ℕ) (at : ℕ) → at + length (encode x) ≤ length out
      → Holds (pad (length out) (take at out ++ encode x)) at (encode x)
  unfolding padded
  holds_pad out at h =
      let zeros : List ℕ = replicate (length out - length (take at out ++ encode x)) 0 in
      drop_holds (take at out ++ encode x ++ zeros) at (encode x) zeros
      (rw (append_assoc (take at out) (encode x) zeros)
      (drop_at (take at out) (encode x ++ zeros) at (length-take-le at out (omega arith))))

  -- so a number that was put, and one that was appended, reads back in every part that has it whole
  pub put_reads : (out : List ℕ) (at next : ℕ) (o : List ℕ) (end : ℕ) → put_of (encode x) at out ≡ (Some next, o) → next ≤ end
      → read_uvarint w (take end o) at ≡ Ok (x, next)
  put_reads out at next o end e l =
      let p = put_past (encode x) at next out o e in
      rw (p.1, p.2) (written_reads out at end (omega arith) p.0)

  pub appended_reads : (out : List ℕ) (at next : ℕ) (o : List ℕ) (end : ℕ) → append_uvarint out at x ≡ (Ok next, o)
      → next ≤ end → read_uvarint w (take end o) at ≡ Ok (x, next)
  appended_reads out at next o end e l =
      let p = appended out at x next o e in
      rw (p.1, p.2)
      (holds_reads (take end (pad (length out) (take at out ++ encode x))) at
      (holds_take (pad (length out) (take at out ++ encode x)) at end (encode x) (omega arith) (holds_pad out at p.0)))

-- for every number of 64 bits
pub back_64 : (x : ℕ) → x < 2 ^ 64 → (out : List ℕ) (at next : ℕ) (o : List ℕ) (end : ℕ)
    → append_uvarint out at x ≡ (Ok next, o) → next ≤ end → read_uvarint 64 (take end o) at ≡ Ok (x, next)
back_64 x small = appended_reads 64 (lit< tt) x small
