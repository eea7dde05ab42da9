-- Laws of unsigned LEB128: decoding and encoding a byte at a time, the length over the width, and that decoding undoes encoding.
use Prim.Native.Nat.{ℕ, zero, suc, ◌+◌, ◌-◌, ◌*◌, ◌/◌, ◌%◌, ◌^◌, ◌≤◌, ◌<◌}
use mathlib.Core.Path.{◌≡◌, refl, sym, ap, ◌∙◌}
use mathlib.Core.List.{List, [], ◌∷◌, ◌++◌}
use mathlib.Core.Logic.{⊎_elim}
use native.Mathlib.Omega.{arith}
use native.Mathlib.Nat.{div-lt_iff_lt-mul, pow-suc, mod-eq_of_lt, lt_of_lt_of_le}
use lib.ListN.{length}
use lib.Dec.{lit<, lit≤}
use lib.Pow.{pow-add, pow_mono}
use borrow.Author.Tests.{lt-ltb, le-ltb, eq-eqb, ne_eqb}
use Rattle.room.proofs.Cases.{lt_or}
use Rattle.varint.specs.Leb128.{decode, size, encode_in, encode}
use Rattle.varint.specs.Uvarint.{most}

-- a last byte, and one that others follow
module _ (b : ℕ) (bs : List ℕ) where
  pub decode_last : b < 128 → decode (b ∷ bs) ≡ b
  unfolding decode
  decode_last h = rw (lt-ltb b 128 h) (omega arith)

  pub decode_more : 128 ≤ b → decode (b ∷ bs) ≡ b % 128 + 128 * decode bs
  unfolding decode
  decode_more h = rw (le-ltb b 128 h)

  pub size_last : b < 128 → size (b ∷ bs) ≡ 1
  unfolding size
  size_last h = rw (lt-ltb b 128 h)

  pub size_more : 128 ≤ b → size (b ∷ bs) ≡ suc (size bs)
  unfolding size
  size_more h = rw (le-ltb b 128 h)

pub size_some : (bs : List ℕ) → 1 ≤ size bs
unfolding size
size_some [] = lit≤ tt
size_some (b ∷ bs) =
    ⊎_elim (λ (l : b < 128). rw (lt-ltb b 128 l) (lit≤ tt)) (λ (l : 128 ≤ b). rw (le-ltb b 128 l) (omega arith)) (lt_or b 128)

in_last : (turns x : ℕ) → x < 128 → encode_in turns x ≡ x ∷ []
unfolding encode_in
in_last zero x h = rw (mod-eq_of_lt h)
in_last (suc turns) x h = rw (eq-eqb (x / 128) 0 (omega arith), encode_in) (rw (mod-eq_of_lt h))

in_more : (turns x : ℕ) → 128 ≤ x → encode_in (suc turns) x ≡ (x % 128 + 128) ∷ encode_in turns (x / 128)
unfolding encode_in
in_more turns x h = rw (ne_eqb (x / 128) 0 (λ e. omega arith), encode_in)

-- the number of turns does not matter where it is enough
turns_enough : (f g x : ℕ) → x ≤ f → x ≤ g → encode_in f x ≡ encode_in g x
turns_enough zero g x h k = in_last zero x (omega arith) ∙ sym (in_last g x (omega arith))
turns_enough (suc f) zero x h k = in_last (suc f) x (omega arith) ∙ sym (in_last zero x (omega arith))
turns_enough (suc f) (suc g) x h k =
    ⊎_elim (λ (l : x < 128). in_last (suc f) x l ∙ sym (in_last (suc g) x l))
    (λ (l : 128 ≤ x). in_more f x l
    ∙ ap (λ (vs : List ℕ). (x % 128 + 128) ∷ vs) (turns_enough f g (x / 128) (omega arith) (omega arith))
    ∙ sym (in_more g x l))
    (lt_or x 128)

pub encode_last : (x : ℕ) → x < 128 → encode x ≡ x ∷ []
unfolding encode
encode_last x h = in_last x x h

pub encode_more : (x : ℕ) → 128 ≤ x → encode x ≡ (x % 128 + 128) ∷ encode (x / 128)
unfolding encode
encode_more zero h = absurd (omega arith)
encode_more (suc f) h =
    in_more f (suc f) h
    ∙ ap (λ (vs : List ℕ). (suc f % 128 + 128) ∷ vs) (turns_enough f (suc f / 128) (suc f / 128) (omega arith) (omega arith))

pub encode_some : (x : ℕ) → 1 ≤ length (encode x)
encode_some x =
    ⊎_elim (λ (l : x < 128). rw (encode_last x l) (lit≤ tt)) (λ (l : 128 ≤ x). rw (encode_more x l) (omega arith)) (lt_or x 128)

over_128 : (k x : ℕ) → x < 128 ^ suc k → x / 128 < 128 ^ k
over_128 k x h = (div-lt_iff_lt-mul {k = 128} {x = x} {y = 128 ^ k} (lit< tt)).1 (rw pow-suc at h)

encode_length : (k x : ℕ) → x < 128 ^ suc k → length (encode x) ≤ suc k
encode_length zero x h = rw (encode_last x h) (lit≤ tt)
encode_length (suc k) x h =
    ⊎_elim (λ (l : x < 128). rw (encode_last x l) (omega arith))
    (λ (l : 128 ≤ x). rw (encode_more x l) (omega (arith, encode_length k (x / 128) (over_128 (suc k) x h))))
    (lt_or x 128)

pub pow_128 : (k : ℕ) → 128 ^ k ≡ 2 ^ (7 * k)
pow_128 zero = refl
pow_128 (suc k) =
    let e : 7 * suc k ≡ 7 * k + 7 = omega arith in
    rw (e, pow-suc 128 k, pow-add 2 (7 * k) 7, pow_128 k)

-- a number of w bits takes no more bytes than a reader of w bits takes
pub encode_width : (w x : ℕ) → 0 < w → x < 2 ^ w → length (encode x) ≤ most w
encode_width w x p h =
    let e : suc (most w - 1) ≡ most w = omega arith in
    let b : x < 128 ^ suc (most w - 1) = rw (e, pow_128 (most w)) (lt_of_lt_of_le h (pow_mono (omega arith))) in
    omega (arith, encode_length (most w - 1) x b)

-- whatever stands behind a number's bytes, they decode to the number
module _ (rest : List ℕ) where
  in_back : (turns x : ℕ) → x ≤ turns → decode (encode_in turns x ++ rest) ≡ x
  in_back zero x h = rw (in_last zero x (omega arith)) (decode_last x rest (omega arith))
  in_back (suc turns) x h =
      ⊎_elim (λ (l : x < 128). rw (in_last (suc turns) x l) (decode_last x rest l))
      (λ (l : 128 ≤ x). rw (in_more turns x l)
      (decode_more (x % 128 + 128) (encode_in turns (x / 128) ++ rest) (omega arith)
      ∙ omega (arith, in_back turns (x / 128) (omega arith))))
      (lt_or x 128)

  in_size : (turns x : ℕ) → x ≤ turns → size (encode_in turns x ++ rest) ≡ length (encode_in turns x)
  in_size zero x h = rw (in_last zero x (omega arith)) (size_last x rest (omega arith))
  in_size (suc turns) x h =
      ⊎_elim (λ (l : x < 128). rw (in_last (suc turns) x l) (size_last x rest l))
      (λ (l : 128 ≤ x). rw (in_more turns x l)
      (size_more (x % 128 + 128) (encode_in turns (x / 128) ++ rest) (omega arith)
      ∙ ap suc (in_size turns (x / 128) (omega arith))))
      (lt_or x 128)

  pub encode_back : (x : ℕ) → decode (encode x ++ rest) ≡ x
  unfolding encode
  encode_back x = in_back x x (omega arith)

  pub encode_size : (x : ℕ) → size (encode x ++ rest) ≡ length (encode x)
  unfolding encode
  encode_size x = in_size x x (omega arith)
