-- A number appended is one that is put at its place, with zeros behind it, or with zeros everywhere where it does not fit.
use Rattle.std.specs.Prelude.{Ok, Err, Some, None}
use Prim.Native.Nat.{ℕ, ◌+◌, ◌≤◌, ◌<◌}
use mathlib.Core.Path.{◌≡◌, ap, ◌∙◌}
use mathlib.Core.List.{List, ◌++◌}
use mathlib.Core.Logic.{⊎_elim}
use native.Mathlib.Omega.{arith}
use lib.ListN.{length, take, drop, replicate, length-append}
use lib.Seq.{take_at, length-take-le}
use borrow.Author.Tests.{le-leb, lt-leb}
use Rattle.answers.specs.declared.Refusal.TheVariants.{NoRoom}
use Rattle.room.specs.Room.{write, pad}
use Rattle.room.specs.Inner.Pour.{put_of}
use Rattle.room.proofs.Cases.{lt_or, both}
use Rattle.room.proofs.Pour.{put_past, put_not}
use Rattle.room.proofs.Write.{write_eq, write_length}
use Rattle.varint.specs.Leb128.{encode}
use Rattle.varint.specs.Uvarint.{append_uvarint}

-- the used part after a run written where it fits
take_write : (o : List ℕ) (at : ℕ) (vs : List ℕ) → at + length vs ≤ length o
    → take (at + length vs) (write o at vs) ≡ take at o ++ vs
take_write o at vs h =
    ap (λ (l : List ℕ). take (at + length vs) l) (write_eq o at vs h)
    ∙ take_at (take at o ++ vs) (drop (at + length vs) o) (at + length vs)
    (length-append (take at o) vs ∙ ap (λ (n : ℕ). n + length vs) (length-take-le at o (omega arith)))

module _ (out : List ℕ) (at x : ℕ) where
  pub append_fits : at + length (encode x) ≤ length out
      → append_uvarint out at x ≡ (Ok (at + length (encode x)), pad (length out) (take at out ++ encode x))
  unfolding append_uvarint
  append_fits h = rw (le-leb (at + length (encode x)) (length out) h)

  pub append_short : length out < at + length (encode x)
      → append_uvarint out at x ≡ (Err NoRoom, replicate (length out) 0)
  unfolding append_uvarint
  append_short h = rw (lt-leb (at + length (encode x)) (length out) h)

  -- by how the bytes were put
  pub append_past : (next : ℕ) (o : List ℕ) → put_of (encode x) at out ≡ (Some next, o)
      → append_uvarint out at x ≡ (Ok next, pad (length o) (take next o))
  append_past next o e =
      let p = put_past (encode x) at next out o e in
      append_fits p.0 ∙ rw (p.1, p.2, write_length, take_write out at (encode x) p.0)

  pub append_not : (o : List ℕ) → put_of (encode x) at out ≡ (None, o)
      → append_uvarint out at x ≡ (Err NoRoom, replicate (length o) 0)
  append_not o e = let p = put_not (encode x) at out o e in append_short p.0 ∙ rw p.1

  -- what a success tells
  pub appended : (next : ℕ) (o : List ℕ) → append_uvarint out at x ≡ (Ok next, o)
      → (at + length (encode x) ≤ length out)
      × (next ≡ at + length (encode x))
      × (o ≡ pad (length out) (take at out ++ encode x))
  appended next o e =
      ⊎_elim
      (λ (no : length out < at + length (encode x)).
      let q = (both e (append_short no)).0 in let z : ◌≡◌ {A = ℕ} 0 1 = cc in absurd (omega arith))
      (λ (fits : at + length (encode x) ≤ length out).
      let b = both e (append_fits fits) in
      let q = b.0 in
      let n : next ≡ at + length (encode x) = cc in (fits, n, b.1))
      (lt_or (length out) (at + length (encode x)))
