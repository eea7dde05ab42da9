-- The reading of a number a byte at a time: what the loop of `read_uvarint` goes by.
use Rattle.std.specs.Prelude.{Ok, Err}
use Prim.Native.Nat.{ℕ, ◌+◌, ◌-◌, ◌*◌, ◌^◌, ◌≤◌, ◌<◌, min}
use mathlib.Core.Path.{◌≡◌, sym, ap, ap₂, ◌∙◌}
use mathlib.Core.List.{List, [], ◌∷◌}
use mathlib.Core.Bool.{Bool, true, false, not, cond, ◌&&◌, and-true, and-false}
use mathlib.Core.Logic.{⊎_elim}
use native.Mathlib.Omega.{arith}
use native.Mathlib.Numerals.{add-one}
use lib.ListN.{length, get_or, take, drop, length-take, drop_of_length-le}
use lib.Dec.{leb, ltb, eqb}
use lib.Seq.{drop-cons, get_or-take}
use borrow.Author.Tests.{le-leb, lt-leb, lt-ltb, le-ltb, eq-eqb, ne_eqb}
use Rattle.answers.specs.declared.Refusal.TheVariants.{Damaged, Loose}
use Rattle.room.proofs.Cases.{lt_or}
use Rattle.varint.specs.Leb128.{decode, size}
use Rattle.varint.specs.Uvarint.{most, read_uvarint}
use Rattle.varint.specs.Uvarint.{ReadUvarint}
use Rattle.varint.proofs.Leb128.{decode_last, decode_more, size_last, size_more, size_some}
use Rattle.varint.proofs.Shortest.{shortest, shortest_last, shortest_more, shortest_none, zero_or}

module _ (w start : ℕ) where
  -- the number is tight if these are the bytes from p on: those before stand for x, and the next one's weight is v
  abbrev tight_on : List ℕ → ℕ → ℕ → ℕ → Bool
  tight_on field p x v = (shortest field && not (eqb (decode field) 0 && ltb start p)) && ltb (x + decode field * v) (2 ^ w)

  -- and this is the reading if n of them may be read
  unfoldable pub read_on : ℕ → List ℕ → ℕ → ℕ → ℕ → ReadUvarint
  read_on n field p x v =
      cond (leb (size field) (min n (length field)))
      (cond (tight_on field p x v) (Ok (x + decode field * v, p + size field)) (Err (Loose start)))
      (Err (Damaged start))

  module _ (n : ℕ) (field : List ℕ) (p x v : ℕ) where
    on_whole : size field ≤ min n (length field)
        → read_on n field p x v ≡ cond (tight_on field p x v) (Ok (x + decode field * v, p + size field)) (Err (Loose start))
    unfolding read_on
    on_whole h = rw (le-leb (size field) (min n (length field)) h)

    on_not : min n (length field) < size field → read_on n field p x v ≡ Err (Damaged start)
    unfolding read_on
    on_not h = rw (lt-leb (size field) (min n (length field)) h)

  -- the last byte
  module _ (n b : ℕ) (bs : List ℕ) (p x v : ℕ) (h : 0 < n) (l : b < 128) where
    on_end : read_on n (b ∷ bs) p x v ≡ cond (not (eqb b 0 && ltb start p) && ltb (x + b * v) (2 ^ w)) (Ok (x + b * v, p + 1)) (Err (Loose start))
    on_end =
        let s = size_last b bs l in
        on_whole n (b ∷ bs) p x v (omega arith)
        ∙ rw (shortest_last b bs l)
        (ap₂ (λ (d k : ℕ). cond (not (eqb d 0 && ltb start p) && ltb (x + d * v) (2 ^ w)) (Ok (x + d * v, p + k)) (Err (Loose start))) (decode_last b bs l) s)

    on_last : (eqb b 0 && ltb start p) ≡ false → x + b * v < 2 ^ w → read_on n (b ∷ bs) p x v ≡ Ok (x + b * v, p + 1)
    on_last z k = on_end ∙ rw (z, lt-ltb (x + b * v) (2 ^ w) k)

    on_zero : (eqb b 0 && ltb start p) ≡ true → read_on n (b ∷ bs) p x v ≡ Err (Loose start)
    on_zero z = on_end ∙ rw z

    on_high : 2 ^ w ≤ x + b * v → read_on n (b ∷ bs) p x v ≡ Err (Loose start)
    on_high k = on_end ∙ rw (le-ltb (x + b * v) (2 ^ w) k, and-false)

  -- a byte that others follow
  module _ (b : ℕ) (bs : List ℕ) (p x v : ℕ) (l : 128 ≤ b) (u : b < 256) where
    sum : x + decode (b ∷ bs) * v ≡ x + (b - 128) * v + decode bs * (v * 128)
    sum =
        let e : decode (b ∷ bs) ≡ b - 128 + 128 * decode bs = omega (arith, decode_more b bs l) in
        rw e (omega arith)

    tight_more : start ≤ p → tight_on (b ∷ bs) p x v ≡ tight_on bs (p + 1) (x + (b - 128) * v) (v * 128)
    tight_more s =
        let onward = lt-ltb start (p + 1) (omega arith) in
        ⊎_elim
        (λ (z : decode bs ≡ 0). rw (shortest_none b bs l z, eq-eqb (decode bs) 0 z, onward, and-false))
        (λ (k : 0 < decode bs).
        rw (shortest_more b bs l k, ne_eqb (decode (b ∷ bs)) 0 (λ e. omega (arith, decode_more b bs l)), ne_eqb (decode bs) 0 (λ e. omega arith), sum))
        (zero_or (decode bs))

    on_more : (n : ℕ) → 0 < n → start ≤ p → read_on n (b ∷ bs) p x v ≡ read_on (n - 1) bs (p + 1) (x + (b - 128) * v) (v * 128)
    on_more n h s =
        let k = size_more b bs l in
        ⊎_elim
        (λ (no : min (n - 1) (length bs) < size bs).
        on_not n (b ∷ bs) p x v (omega arith) ∙ sym (on_not (n - 1) bs (p + 1) (x + (b - 128) * v) (v * 128) no))
        (λ (fits : size bs ≤ min (n - 1) (length bs)).
        on_whole n (b ∷ bs) p x v (omega arith)
        ∙ ap (λ (t : Bool). cond t (Ok (x + decode (b ∷ bs) * v, p + size (b ∷ bs))) (Err (Loose start))) (tight_more s)
        ∙ ap₂ (λ (y q : ℕ). cond (tight_on bs (p + 1) (x + (b - 128) * v) (v * 128)) (Ok (y, q)) (Err (Loose start))) sum (omega arith)
        ∙ sym (on_whole (n - 1) bs (p + 1) (x + (b - 128) * v) (v * 128) fits))
        (lt_or (min (n - 1) (length bs)) (size bs))

-- a number's reading begins with no byte read
pub read_on_lem : (w : ℕ) (part : List ℕ) (at : ℕ) → read_uvarint w part at ≡ read_on w at (most w) (drop at part) at 0 1
unfolding read_uvarint read_on
read_on_lem w part at =
    let e : 0 + decode (drop at part) * 1 ≡ decode (drop at part) = omega arith in
    rw (e, le-ltb at at (omega arith), and-false, and-true)

-- the same by the places of a slice, whose part ends at `end`
module _ (w start : ℕ) (src : List ℕ) (end : ℕ) where
  -- the reading from p on
  unfoldable pub read_at_lem : ℕ → ℕ → ℕ → ℕ → ReadUvarint
  read_at_lem n p x v = read_on w start n (drop p (take end src)) p x v

  -- the next byte and those behind it
  next_byte : (p : ℕ) → p < min end (length src) → drop p (take end src) ≡ get_or src p 0 ∷ drop (p + 1) (take end src)
  next_byte p h =
      drop-cons (take end src) p 0 (rw length-take h)
      ∙ ap₂ (λ (b q : ℕ). b ∷ drop q (take end src)) (get_or-take end src p 0 (omega arith)) (sym (add-one p))

  module _ (n p x v : ℕ) where
    pub at_past : min end (length src) ≤ p → read_at_lem n p x v ≡ Err (Damaged start)
    unfolding read_at_lem size
    at_past h =
        rw (drop_of_length-le (take end src) {i = p} (rw length-take h))
        (on_not w start n [] p x v (omega arith))

    module _ (inside : p < min end (length src)) where
      module _ (h : 0 < n) (l : get_or src p 0 < 128) where
        pub at_last : (eqb (get_or src p 0) 0 && ltb start p) ≡ false → x + get_or src p 0 * v < 2 ^ w
            → read_at_lem n p x v ≡ Ok (x + get_or src p 0 * v, p + 1)
        unfolding read_at_lem
        at_last z k = rw (next_byte p inside) (on_last w start n (get_or src p 0) (drop (p + 1) (take end src)) p x v h l z k)

        pub at_zero : (eqb (get_or src p 0) 0 && ltb start p) ≡ true → read_at_lem n p x v ≡ Err (Loose start)
        unfolding read_at_lem
        at_zero z = rw (next_byte p inside) (on_zero w start n (get_or src p 0) (drop (p + 1) (take end src)) p x v h l z)

        pub at_high : 2 ^ w ≤ x + get_or src p 0 * v → read_at_lem n p x v ≡ Err (Loose start)
        unfolding read_at_lem
        at_high k = rw (next_byte p inside) (on_high w start n (get_or src p 0) (drop (p + 1) (take end src)) p x v h l k)

      pub at_more : 0 < n → start ≤ p → 128 ≤ get_or src p 0 → get_or src p 0 < 256
          → read_at_lem n p x v ≡ read_at_lem (n - 1) (p + 1) (x + (get_or src p 0 - 128) * v) (v * 128)
      unfolding read_at_lem
      at_more h s l u = rw (next_byte p inside) (on_more w start (get_or src p 0) (drop (p + 1) (take end src)) p x v l u n h s)

      pub at_out : n ≤ 1 → 128 ≤ get_or src p 0 → read_at_lem n p x v ≡ Err (Damaged start)
      unfolding read_at_lem
      at_out h l =
          let bs = drop (p + 1) (take end src) in
          rw (next_byte p inside)
          (on_not w start n (get_or src p 0 ∷ bs) p x v (omega (arith, size_more (get_or src p 0) bs l, size_some bs)))

pub read_at : (w : ℕ) (src : List ℕ) (at end : ℕ) → read_uvarint w (take end src) at ≡ read_at_lem w at src end (most w) at 0 1
unfolding read_at_lem
read_at w src at end = read_on_lem w (take end src) at
