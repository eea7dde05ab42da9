-- The weights of a number's bytes: 1, 128, .. Where n more bytes may come and the next one's weight is v, the last one's
-- is v * 128 ^ (n - 1). What the bytes so far stand for is below v.
use Prim.Native.Nat.{ℕ, zero, suc, ◌+◌, ◌-◌, ◌*◌, ◌^◌, ◌≤◌, ◌<◌}
use mathlib.Core.Path.{◌≡◌, sym, ◌∙◌}
use native.Mathlib.Omega.{arith}
use native.Mathlib.Nat.{pow-succ', mul_assoc, mul-one, mul-le-mul_left, mul-le-mul_right, not-suc-le-zero, one-le-pow}
use native.Mathlib.Numerals.{sub-one}
use lib.Dec.{lit<}

-- v is the next weight, and top the last
unfoldable pub Weight : ℕ → ℕ → ℕ → Type 0
Weight top n v = v * 128 ^ (n - 1) ≡ top

-- one more byte keeps the sum below the weight after it
pub digit : (x v b : ℕ) → x < v → b < 128 → x + b * v < v * 128
digit x v b h l = let k : b ≤ 127 = omega arith in omega (arith, mul-le-mul_right v k)

module _ (top : ℕ) where
  pub weight_more : (n v : ℕ) → 1 < n → Weight top n v → Weight top (n - 1) (v * 128)
  unfolding Weight
  weight_more zero v h e = absurd (not-suc-le-zero h)
  weight_more (suc zero) v h e = absurd (omega arith)
  weight_more (suc (suc k)) v h e =
      let e' : v * 128 ^ suc k ≡ top = rw sub-one at e in
      simp sub-one (rw mul_assoc (rw (← pow-succ' 128 k) e'))

  weight_le : (n v : ℕ) → Weight top n v → v ≤ top
  unfolding Weight
  weight_le n v e = omega (arith, mul-le-mul_left v (one-le-pow (n - 1) 128 (lit< tt)), mul-one v)

  pub weight_128 : (n v : ℕ) → 1 < n → Weight top n v → v * 128 ≤ top
  weight_128 n v h e = weight_le (n - 1) (v * 128) (weight_more n v h e)

  pub weight_last : (n v : ℕ) → 0 < n → n ≤ 1 → Weight top n v → v ≡ top
  unfolding Weight
  weight_last zero v h l e = absurd (not-suc-le-zero h)
  weight_last (suc zero) v h l e = sym (mul-one v) ∙ e
  weight_last (suc (suc k)) v h l e = absurd (omega arith)

  -- and so below the last
  pub below_top : (x v n b : ℕ) → x < v → 1 < n → Weight top n v → b < 128 → x + b * v < top
  below_top x v n b h l e k = omega (arith, digit x v b h k, weight_128 n v l e)
