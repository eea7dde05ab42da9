-- The least whole number not below a value, from its whole part: one more where the part is below the value. Assumes nothing.
use Rattle.std.proofs.Common.{◌≡◌, ℕ, suc, ◌+◌, ◌-◌, ◌*◌, ◌/◌, ◌^◌, ◌<◌, ◌≤◌, min, Bool, true, false, not, T, ltb, ℤ, pos, negsuc, sym, refl, ap, ◌∙◌, subst, true≢false, le_trans, le_of_eq, le_of_lt, lt-suc_self, div-lt_iff_lt-mul, le_antisymm, le-div_iff_mul-le, mul-one, div-le_self, not-le_of_lt, div-mul-le_self, arith, le→leb, ltb-false, ltb-true}
use lib.Ieee.{Float, nan, inf, fin, binary64, up, down, lt, fits, of_int, to_unsigned, in_float}
use lib.Ieee.Fits.{down_pos}
use lib.Ieee.Exact.{HasValue}
use Rattle.floats.proofs.Ints.{ltb_scale, whole_value}
use Rattle.whole.specs.Floor.{floor_within}
use Rattle.whole.specs.Inner.Sizes.{ceiling_size}
use Rattle.whole.proofs.Within.{MAX, whole_part}
use Rattle.whole.proofs.Double.{held}

-- the test whether a whole number k lies below x
abbrev passes : Float → ℕ → Bool
passes nan k = false
passes (inf s) k = not s
passes (fin true m e) k = false
passes (fin false m e) k = ltb (k * down e) (m * up e)

test_is : (v x : Float) (k : ℕ) → HasValue v false k 1 → lt v x ≡ passes x k
unfolding lt
test_is nan x k h = absurd h
test_is (inf s) x k h = absurd h
test_is (fin true n d) x k h = absurd (true≢false h.0)
test_is (fin false n d) nan k h = refl
test_is (fin false n d) (inf s) k h = refl
test_is (fin false n d) (fin true m e) k h = refl
test_is (fin false n d) (fin false m e) k h = rw (left (n * up d) (down d) (down e) h.1) (ltb_scale (k * down e) (m * up e) (down d) (down_pos d))
  where
    left : (a p q : ℕ) → a * 1 ≡ k * p → a * q ≡ k * q * p
    left a p q h = let w : a * 1 * q ≡ k * p * q = ap (λ (z : ℕ). z * q) h in omega arith

-- a / d and no more, or one more
pub exact : (a d k : ℕ) → 0 < d → k * d ≡ a → (a + (d - 1)) / d ≡ k
exact a d k D h =
    le_antisymm
    (le-of-suc ((div-lt_iff_lt-mul D).1 (omega (arith, D))))
    ((le-div_iff_mul-le D).1 (omega (arith, D)))
  where
    le-of-suc : {a b : ℕ} → a < suc b → a ≤ b
    le-of-suc h = omega arith

above : (a d k : ℕ) → 0 < d → k * d < a → a < suc k * d → (a + (d - 1)) / d ≡ k + 1
above a d k D h l =
    le_antisymm
    (le-of-suc ((div-lt_iff_lt-mul D).1 (omega (arith, D))))
    ((le-div_iff_mul-le D).1 (omega (arith, D)))
  where
    le-of-suc : {a b : ℕ} → a < suc b → a ≤ b
    le-of-suc h = omega arith

-- from 2 ^ 53 on a float has no fraction
no_fraction : (m : ℕ) (e : ℤ) → T (fits binary64 (fin false m e)) → 2 ^ 53 ≤ m * up e / down e → down e ≡ 1
no_fraction m (pos j) f h = refl
no_fraction m (negsuc j) f h = absurd (small m (2 ^ suc j) (held false m (negsuc j) f).0 h)
  where
    small : (m d : ℕ) → m < 2 ^ 53 → 2 ^ 53 ≤ m * 1 / d → ⊥
    small m d l h = not-le_of_lt l (le_trans h (le_trans (div-le_self (m * 1) d) (le_of_eq (mul-one m))))

-- ---- the three cases
module _ (k : ℕ) where
  -- k is a / d, where it is small
  part_is : (a d : ℕ) → k ≡ min (a / d) (2 ^ 64 - 1) → k < 2 ^ 53 → k ≡ a / d
  part_is a d u l = omega arith

  more : (x : Float) → k ≡ to_unsigned 64 x → k < 2 ^ 53 → passes x k ≡ true → k + 1 ≡ ceiling_size x
  unfolding to_unsigned ceiling_size
  more nan u l h = absurd (true≢false (sym h))
  more (inf true) u l h = absurd (true≢false (sym h))
  more (inf false) u l h = omega arith
  more (fin true m e) u l h = absurd (true≢false (sym h))
  more (fin false m e) u l h =
      let a = m * up e in
      let d = down e in
      let q = part_is a d u l in
      let w : a < suc k * d = subst (λ (z : ℕ). a < suc z * d) (sym q) ((div-lt_iff_lt-mul (down_pos e)).0 (lt-suc_self (a / d))) in
      rw (above a d k (down_pos e) (ltb-true (k * d) a h) w) (omega arith)

  no_more : (x : Float) → k ≡ to_unsigned 64 x → k < 2 ^ 53 → passes x k ≡ false → k ≡ ceiling_size x
  unfolding to_unsigned ceiling_size
  no_more nan u l h = u
  no_more (inf true) u l h = u
  no_more (inf false) u l h = absurd (true≢false h)
  no_more (fin true m e) u l h = u
  no_more (fin false m e) u l h =
      let a = m * up e in
      let d = down e in
      let q = part_is a d u l in
      let w : k * d ≤ a = subst (λ (z : ℕ). z * d ≤ a) (sym q) (div-mul-le_self a d) in
      rw (exact a d k (down_pos e) (le_antisymm w (ltb-false (k * d) a h))) (omega arith)

  large : (x : Float) → k ≡ to_unsigned 64 x → T (fits binary64 x) → 2 ^ 53 ≤ k → k ≡ ceiling_size x
  unfolding to_unsigned ceiling_size
  large nan u f l = u
  large (inf true) u f l = u
  large (inf false) u f l = u
  large (fin true m e) u f l = u
  large (fin false m e) u f l =
      let a = m * up e in
      let b : 2 ^ 53 ≤ a / down e = omega arith in
      u ∙ ap (λ (z : ℕ). min z (2 ^ 64 - 1)) (same a (no_fraction m e f b))
    where
      same : {d : ℕ} (a : ℕ) → d ≡ 1 → a / d ≡ (a + (d - 1)) / d
      same a o = rw o (omega arith)

-- ---- the ways out of `ceiling`
pub small_float : (k : ℕ) → k < 2 ^ 53 → T (in_float binary64 (pos k))
unfolding in_float
small_float k l = le→leb k (2 ^ 53) (le_of_lt l)

module _ (x : Float) (k : ℕ) (p : k ≡ floor_within MAX x) where
  test : k < 2 ^ 53 → lt (of_int binary64 (pos k)) x ≡ passes x k
  test l = test_is (of_int binary64 (pos k)) x k (whole_value (pos k) (le_of_lt l))

  pub way_more : k < 2 ^ 53 → lt (of_int binary64 (pos k)) x ≡ true → k + 1 ≡ ceiling_size x
  way_more l h = more k x (whole_part x k p) l (sym (test l) ∙ h)

  pub way_whole : k < 2 ^ 53 → lt (of_int binary64 (pos k)) x ≡ false → k ≡ ceiling_size x
  way_whole l h = no_more k x (whole_part x k p) l (sym (test l) ∙ h)

  pub way_large : T (fits binary64 x) → 2 ^ 53 ≤ k → k ≡ ceiling_size x
  way_large f l = large k x (whole_part x k p) f l
