-- The shortest form of a number, a byte at a time: no field that stands for it is shorter, and one that is as short is what the writer writes.
use Prim.Native.Nat.{ℕ, suc, ◌+◌, ◌%◌, ◌≤◌, ◌<◌}
use mathlib.Core.Path.{◌≡◌, sym, ap, ap₂, ◌∙◌}
use mathlib.Core.List.{List, [], ◌∷◌}
use mathlib.Core.Bool.{Bool, true, false}
use mathlib.Core.Logic.{◌⊎◌, ⊎_elim, inl, inr}
use native.Mathlib.Omega.{arith}
use lib.ListN.{length, take}
use lib.Dec.{eqb}
use borrow.Author.Tests.{eq-eqb, ne_eqb}
use Rattle.room.proofs.Cases.{lt_or, eq_or}
use Rattle.varint.specs.Bytes.{Bytes}
use Rattle.varint.specs.Leb128.{decode, size, encode}
use Rattle.varint.proofs.Leb128.{decode_last, decode_more, size_last, size_more, size_some, encode_last, encode_more}

-- the field is as long as its number needs
abbrev pub shortest : List ℕ → Bool
shortest bs = eqb (size bs) (length (encode (decode bs)))

module _ (b : ℕ) (bs : List ℕ) where
  -- a field of one byte
  last_length : b < 128 → length (encode (decode (b ∷ bs))) ≡ 1
  last_length l = ap (λ (n : ℕ). length (encode n)) (decode_last b bs l) ∙ ap length (encode_last b l)

  pub shortest_last : b < 128 → shortest (b ∷ bs) ≡ true
  shortest_last l = eq-eqb _ _ (size_last b bs l ∙ sym (last_length l))

  module _ (more : 128 ≤ b) where
    -- a field that goes on, and whose other bytes stand for something
    more_encode : 0 < decode bs → encode (decode (b ∷ bs)) ≡ (b % 128 + 128) ∷ encode (decode bs)
    more_encode p =
        let e = decode_more b bs more in
        let over : 128 ≤ decode (b ∷ bs) = omega arith in
        encode_more (decode (b ∷ bs)) over
        ∙ ap₂ (λ (c d : ℕ). (c + 128) ∷ encode d) (omega arith) (omega arith)

    -- and one whose other bytes stand for nothing
    none_length : decode bs ≡ 0 → length (encode (decode (b ∷ bs))) ≡ 1
    none_length z =
        let e = decode_more b bs more in
        ap length (encode_last (decode (b ∷ bs)) (omega arith))

    pub shortest_more : 0 < decode bs → shortest (b ∷ bs) ≡ shortest bs
    shortest_more p =
        let s = size_more b bs more in
        let l = ap length (more_encode p) in
        ⊎_elim
        (λ (e : size bs ≡ length (encode (decode bs))). eq-eqb (size (b ∷ bs)) (length (encode (decode (b ∷ bs)))) (omega arith) ∙ sym (eq-eqb (size bs) (length (encode (decode bs))) e))
        (λ (n : size bs ≡ length (encode (decode bs)) → ⊥). ne_eqb (size (b ∷ bs)) (length (encode (decode (b ∷ bs)))) (λ e. n (omega arith)) ∙ sym (ne_eqb (size bs) (length (encode (decode bs))) n))
        (eq_or (size bs) (length (encode (decode bs))))

    pub shortest_none : decode bs ≡ 0 → shortest (b ∷ bs) ≡ false
    shortest_none z =
        let s = size_more b bs more in
        let l = none_length z in
        let k = size_some bs in
        ne_eqb (size (b ∷ bs)) (length (encode (decode (b ∷ bs)))) (λ e. omega arith)

pub zero_or : (n : ℕ) → (n ≡ 0) ⊎ (0 < n)
zero_or n = ⊎_elim (λ (l : n < 1). inl (omega arith)) (λ (l : 1 ≤ n). inr l) (lt_or n 1)

-- No field that stands for a number is shorter than what the standard's algorithm writes for it.
pub encode_shortest : (bs : List ℕ) → length (encode (decode bs)) ≤ size bs
unfolding decode size
encode_shortest [] = omega (arith, ap length (encode_last 0 (omega arith)))
encode_shortest (b ∷ bs) =
    ⊎_elim
    (λ (l : b < 128). omega (arith, last_length b bs l, size_last b bs l))
    (λ (l : 128 ≤ b). ⊎_elim
    (λ (z : decode bs ≡ 0). omega (arith, none_length b bs l z, size_more b bs l))
    (λ (p : 0 < decode bs). omega (arith, ap length (more_encode b bs l p), size_more b bs l, encode_shortest bs))
    (zero_or (decode bs)))
    (lt_or b 128)

-- A complete field of bytes that is as short is what is written for its number.
pub shortest_bytes : (bs : List ℕ) → Bytes bs → size bs ≤ length bs → size bs ≡ length (encode (decode bs))
    → take (size bs) bs ≡ encode (decode bs)
shortest_bytes [] bytes whole short = absurd (omega (arith, size_some []))
shortest_bytes (b ∷ bs) bytes whole short =
    ⊎_elim
    (λ (l : b < 128).
    rw (size_last b bs l, decode_last b bs l) (sym (encode_last b l)))
    (λ (l : 128 ≤ b).
    let s = size_more b bs l in
    ⊎_elim
    (λ (z : decode bs ≡ 0). absurd (omega (arith, none_length b bs l z, size_some bs)))
    (λ (p : 0 < decode bs).
    let e = more_encode b bs l p in
    let rest = shortest_bytes bs (λ i. bytes (suc i)) (omega arith) (omega (arith, ap length e)) in
    let c : b ≡ b % 128 + 128 = omega (arith, bytes 0) in
    ap (λ (n : ℕ). take n (b ∷ bs)) s ∙ ap₂ (λ (h : ℕ) (t : List ℕ). h ∷ t) c rest ∙ sym e)
    (zero_or (decode bs)))
    (lt_or b 128)
