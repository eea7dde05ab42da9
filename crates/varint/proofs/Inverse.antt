-- Reading and writing are inverse to each other (02, CR 6), over the width. `holds_reads` and those behind it (Back) say that what was written is read; here:
-- whatever is read, its number written again is exactly the bytes that were read.
use Rattle.std.specs.Prelude.{Ok}
use Prim.Native.Nat.{ℕ, ◌+◌, ◌-◌, ◌^◌, ◌≤◌, ◌<◌}
use mathlib.Core.Path.{◌≡◌, sym, ap, ◌∙◌}
use mathlib.Core.List.{List, ◌++◌}
use mathlib.Core.Logic.{⊎_elim}
use native.Mathlib.Omega.{arith}
use lib.ListN.{length, take, drop, length-take, get_or-eq_default}
use lib.Seq.{get_or-drop, get_or-take, take-add}
use lib.Dec.{lit<}
use Rattle.room.specs.Room.{Holds, pad}
use Rattle.room.proofs.Cases.{lt_or}
use Rattle.varint.specs.Bytes.{Bytes}
use Rattle.varint.specs.Leb128.{decode, size, encode}
use Rattle.varint.specs.Uvarint.{read_uvarint, append_uvarint}
use Rattle.varint.proofs.Answers.{read_whole, read_onward}
use Rattle.varint.proofs.Back.{holds_reads}
use Rattle.varint.proofs.Shortest.{shortest_bytes}
use Rattle.varint.proofs.Writing.{append_fits}

pub bytes_drop : (bs : List ℕ) (n : ℕ) → Bytes bs → Bytes (drop n bs)
bytes_drop bs n h i = rw get_or-drop (h (n + i))

pub bytes_take : (bs : List ℕ) (n : ℕ) → Bytes bs → Bytes (take n bs)
bytes_take bs n h i =
    ⊎_elim (λ (l : i < n). rw (get_or-take n bs i 0 l) (h i))
    (λ (l : n ≤ i). rw (get_or-eq_default (take n bs) 0 {n = i} (omega (arith, length-take n bs))) (lit< tt))
    (lt_or i n)

-- What is read at a place of a part, and the place past it: a number of w bits whose bytes, as the writer writes them, stand there.
pub record ReadsAs (w : ℕ) (part : List ℕ) (at x next : ℕ) : Type 0 where
  pub small : x < 2 ^ w
  pub stands : Holds part at (encode x)
  pub place : next ≡ at + length (encode x)

module _ (w : ℕ) (part : List ℕ) (at x next : ℕ) where
  pub read_stands : Bytes part → read_uvarint w part at ≡ Ok (x, next) → ReadsAs w part at x next
  unfolding Holds
  read_stands bytes e =
      let r = read_whole w part at x next e in
      let v = r.value in
      let s : size (drop at part) ≡ length (encode (decode (drop at part))) = r.short ∙ ap (λ (n : ℕ). length (encode n)) v in
      record {
        small = r.small;
        stands = ap (λ (n : ℕ). take n (drop at part)) (sym r.short) ∙ shortest_bytes (drop at part) (bytes_drop part at bytes) r.complete s ∙ ap encode (sym v);
        place = r.place;
      }

  pub stands_read : 0 < w → ReadsAs w part at x next → read_uvarint w part at ≡ Ok (x, next)
  stands_read bits r = holds_reads w bits x r.small part at r.stands ∙ ap (λ (n : ℕ). Ok (x, n)) (sym r.place)

-- Two byte strings that are read as one number are one byte string.
pub read_once : (w : ℕ) (part part' : List ℕ) (at at' x next next' : ℕ) → Bytes part → Bytes part'
    → read_uvarint w part at ≡ Ok (x, next) → read_uvarint w part' at' ≡ Ok (x, next')
    → take (next - at) (drop at part) ≡ take (next' - at') (drop at' part')
unfolding Holds
read_once w part part' at at' x next next' bytes bytes' e e' =
    let r = read_stands w part at x next bytes e in
    let r' = read_stands w part' at' x next' bytes' e' in
    let k : next - at ≡ length (encode x) = omega (arith, r.place) in
    let k' : next' - at' ≡ length (encode x) = omega (arith, r'.place) in
    rw (k, k') (r.stands ∙ sym r'.stands)

-- A number that was read, put in its own place again, leaves the bytes up to the next place as they were.
pub read_append : (w : ℕ) (part : List ℕ) (at x next : ℕ) → Bytes part → read_uvarint w part at ≡ Ok (x, next)
    → append_uvarint part at x ≡ (Ok next, pad (length part) (take next part))
unfolding Holds
read_append w part at x next bytes e =
    let r = read_stands w part at x next bytes e in
    let t : take next part ≡ take at part ++ encode x = ap (λ (n : ℕ). take n part) r.place ∙ take-add at (length (encode x)) part ∙ ap (λ (l : List ℕ). take at part ++ l) r.stands in
    append_fits part at x (omega (arith, r.place, read_onward w part at x next e)) ∙ rw (t, r.place)
