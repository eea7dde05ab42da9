-- What an answer tells: of a number that was read, and 01's number and place of each refusal.
use Rattle.std.specs.Prelude.{Ok, Err}
use Prim.Native.Nat.{ℕ, ◌+◌, ◌^◌, ◌≤◌, ◌<◌, min}
use mathlib.Core.Path.{◌≡◌, refl, sym, ap, ◌∙◌}
use mathlib.Core.List.{List}
use mathlib.Core.Bool.{Bool, true, false, ◌&&◌, true≢false}
use mathlib.Core.Logic.{◌⊎◌, ⊎_elim, inl, inr}
use native.Mathlib.Omega.{arith}
use lib.ListN.{length, drop, length-drop}
use lib.Dec.{eqb, ltb}
use borrow.Author.Tests.{le-leb, lt-leb, eqb-true, ltb-true}
use Rattle.answers.specs.Refusals.{number_of, place_of}
use Rattle.answers.specs.declared.Refusal.{Refusal}
use Rattle.answers.specs.declared.Refusal.TheVariants.{NoRoom, Damaged, Loose}
use Rattle.room.proofs.Cases.{lt_or, both}
use Rattle.varint.specs.Leb128.{decode, size, encode}
use Rattle.varint.specs.Uvarint.{most, tight, read_uvarint, append_uvarint}
use Rattle.varint.proofs.Leb128.{encode_some}
use Rattle.varint.proofs.Writing.{append_fits, append_short}

-- What a number that was read tells of the field that starts at its place: the field is complete, as short as its number allows, and the number has w bits.
pub record Whole (w : ℕ) (part : List ℕ) (at x next : ℕ) : Type 0 where
  pub complete : size (drop at part) ≤ length (drop at part)
  pub short : size (drop at part) ≡ length (encode x)
  pub value : x ≡ decode (drop at part)
  pub small : x < 2 ^ w
  pub place : next ≡ at + length (encode x)

first : (a b : Bool) → (a && b) ≡ true → a ≡ true
first true b e = refl
first false b e = absurd (true≢false (sym e))

second : (a b : Bool) → (a && b) ≡ true → b ≡ true
second true b e = e
second false b e = absurd (true≢false (sym e))

module _ (w : ℕ) (part : List ℕ) (at : ℕ) where
  abbrev field : List ℕ
  field = drop at part

  pub read_fits : size field ≤ min (most w) (length field) → tight w field ≡ true
      → read_uvarint w part at ≡ Ok (decode field, at + size field)
  unfolding read_uvarint
  read_fits h t = rw (le-leb (size field) (min (most w) (length field)) h, t)

  pub read_loose : size field ≤ min (most w) (length field) → tight w field ≡ false → read_uvarint w part at ≡ Err (Loose at)
  unfolding read_uvarint
  read_loose h t = rw (le-leb (size field) (min (most w) (length field)) h, t)

  pub read_not : min (most w) (length field) < size field → read_uvarint w part at ≡ Err (Damaged at)
  unfolding read_uvarint
  read_not h = rw (lt-leb (size field) (min (most w) (length field)) h)

  -- an answer is one of these three
  by_cases : {A : Type 0} → (min (most w) (length field) < size field → A)
      → (size field ≤ min (most w) (length field) → tight w field ≡ false → A)
      → (size field ≤ min (most w) (length field) → tight w field ≡ true → A) → A
  by_cases {A} unended loose fits = ⊎_elim unended (λ l. go l (tight w field) refl) (lt_or (min (most w) (length field)) (size field))
    where
      go : size field ≤ min (most w) (length field) → (t : Bool) → tight w field ≡ t → A
      go l true e = fits l e
      go l false e = loose l e

  pub read_whole : (x next : ℕ) → read_uvarint w part at ≡ Ok (x, next) → Whole w part at x next
  read_whole x next e =
      by_cases
      (λ no. let q = sym (read_not no) ∙ e in let z : ◌≡◌ {A = ℕ} 0 1 = cc in absurd (omega arith))
      (λ fits loose. let q = sym (read_loose fits loose) ∙ e in let z : ◌≡◌ {A = ℕ} 0 1 = cc in absurd (omega arith))
      (λ fits good.
      let q = sym (read_fits fits good) ∙ e in
      let o : ◌≡◌ {A = ℕ × ℕ} (x, next) (decode field, at + size field) = cc in
      let v : x ≡ decode field = ap (λ (y : ℕ × ℕ). y.0) o in
      let n : next ≡ at + size field = ap (λ (y : ℕ × ℕ). y.1) o in
      let s = eqb-true (size field) (length (encode (decode field))) (first (eqb (size field) (length (encode (decode field)))) (ltb (decode field) (2 ^ w)) good) in
      let k : length (encode x) ≡ length (encode (decode field)) = ap (λ (y : ℕ). length (encode y)) v in
      record {
        complete = omega arith;
        short = s ∙ sym k;
        value = v;
        small = rw v (ltb-true (decode field) (2 ^ w) (second (eqb (size field) (length (encode (decode field)))) (ltb (decode field) (2 ^ w)) good));
        place = n ∙ ap (λ (m : ℕ). at + m) (s ∙ sym k);
      })

  -- so it has at least one byte, and ends inside the part
  pub read_onward : (x next : ℕ) → read_uvarint w part at ≡ Ok (x, next) → (at < next) × (next ≤ length part)
  read_onward x next e =
      let r = read_whole x next e in
      let some = encode_some x in
      let l = length-drop at part in
      (omega (arith, r.place), omega (arith, r.place, r.short, r.complete))

  -- what cannot be read is 9 or 15, with the byte where it starts
  pub unread_is_9_or_15 : (r : Refusal) → read_uvarint w part at ≡ Err r → ((number_of r ≡ 9) ⊎ (number_of r ≡ 15)) × (place_of r ≡ at)
  unread_is_9_or_15 r e =
      by_cases
      (λ no. let q = sym (read_not no) ∙ e in let d : r ≡ Damaged at = cc in (inl (ap number_of d), ap place_of d))
      (λ fits loose. let q = sym (read_loose fits loose) ∙ e in let d : r ≡ Loose at = cc in (inr (ap number_of d), ap place_of d))
      (λ fits good. let q = sym (read_fits fits good) ∙ e in let z : ◌≡◌ {A = ℕ} 0 1 = cc in absurd (omega arith))

-- what does not fit is 8
pub unappended_is_8 : (out : List ℕ) (at x : ℕ) (r : Refusal) (o : List ℕ) → append_uvarint out at x ≡ (Err r, o)
    → (number_of r ≡ 8) × (place_of r ≡ 0)
unappended_is_8 out at x r o e =
    ⊎_elim
    (λ (no : length out < at + length (encode x)).
    let q = (both e (append_short out at x no)).0 in let d : r ≡ NoRoom = cc in (ap number_of d, ap place_of d))
    (λ (fits : at + length (encode x) ≤ length out).
    let q = (both e (append_fits out at x fits)).0 in let z : ◌≡◌ {A = ℕ} 0 1 = cc in absurd (omega arith))
    (lt_or (length out) (at + length (encode x)))
