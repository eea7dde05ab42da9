-- The length of a number's bytes from its leading zeros, over the width: seven bits a byte.
use Prim.Native.Nat.{ℕ, zero, suc, ◌+◌, ◌-◌, ◌*◌, ◌/◌, ◌^◌, ◌≤◌, ◌<◌}
use mathlib.Core.Path.{◌≡◌, sym, ap, ◌∙◌}
use mathlib.Core.Logic.{⊎_elim}
use native.Mathlib.Omega.{arith}
use native.Mathlib.Nat.{le_trans, le-div_iff_mul-le, pow-suc, one-le-pow}
use lib.ListN.{length}
use lib.Bits.{bit_or, or_lt, or_step, or_zero_r}
use lib.Count.{count_leading_zeros, leading_top}
use lib.Dec.{lit<, lit≤}
use lib.Pow.{pow_mono}
use Rattle.room.proofs.Cases.{lt_or}
use Rattle.varint.specs.Leb128.{encode}
use Rattle.varint.specs.Uvarint.{most}
use Rattle.varint.proofs.Leb128.{encode_last, encode_more, encode_some, encode_width, pow_128}

-- a number from 128 ^ k on takes over k bytes
length_over : (k x : ℕ) → 128 ^ k ≤ x → k < length (encode x)
length_over zero x h = encode_some x
length_over (suc k) x h =
    let e = pow-suc 128 k in
    let q : 128 ^ k ≤ x / 128 = (le-div_iff_mul-le {k = 128} {x = 128 ^ k} {y = x} (lit< tt)).1 (omega arith) in
    let m : 128 ≤ x = omega (arith, one-le-pow k 128 (lit< tt)) in
    omega (arith, length_over k (x / 128) q, ap length (encode_more x m))

-- a number of j + 1 bits takes the bytes that these need
pub length_bits : (j x : ℕ) → 2 ^ j ≤ x → x < 2 ^ suc j → length (encode x) ≡ most (suc j)
length_bits j x l h =
    let low : 128 ^ (j / 7) ≤ x = rw (pow_128 (j / 7)) (le_trans (pow_mono (omega arith)) l) in
    omega (arith, length_over (j / 7) x low, encode_width (suc j) x (omega arith) h)

-- numbers that differ in their lowest seven bits only are as long
length_low : (x y : ℕ) → x / 128 ≡ y / 128 → length (encode x) ≡ length (encode y)
length_low x y e =
    ⊎_elim (λ (l : x < 128). ap length (encode_last x l) ∙ sym (ap length (encode_last y (omega arith))))
    (λ (l : 128 ≤ x). ap length (encode_more x l) ∙ ap (λ (n : ℕ). suc (length (encode n))) e ∙ sym (ap length (encode_more y (omega arith))))
    (lt_or x 128)

-- with the lowest bit set, which is what gives 0 its byte
odd : (x : ℕ) → bit_or x 1 ≡ x / 2 * 2 + 1
odd x = omega (arith, or_step x 1, or_zero_r (x / 2))

-- The law, for every width: what the leading zeros leave of w bits, seven a byte.
pub length_leading : (w x : ℕ) → 0 < w → x < 2 ^ w → let bits = w - count_leading_zeros w (bit_or x 1) in
    (0 < bits) × (bits ≤ w) × (length (encode x) ≡ most bits)
length_leading w x p h =
    let y = bit_or x 1 in
    let e = odd x in
    let t = leading_top w y (omega arith) (or_lt w x 1 h (le_trans (lit≤ tt) (pow_mono {i = 1} {j = w} p))) in
    (omega (arith, t.1), omega arith, length_low x y (omega arith) ∙ length_bits t.0 y t.2 t.3 ∙ ap most (omega (arith, t.1)))

-- nine sixty-fourths, up to 64 bits
pub most_64 : (bits : ℕ) → 0 < bits → bits ≤ 64 → (bits * 9 + 64) / 64 ≡ most bits
most_64 bits l h = omega arith
