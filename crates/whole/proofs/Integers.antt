-- The order of whole numbers, and their products and differences by signs. Assumes nothing.
use Rattle.std.proofs.Common.{◌≡◌, ℕ, zero, suc, ◌+◌, ◌-◌, ◌*◌, ◌≤◌, Bool, true, false, cond, not, T, ltb, ℤ, pos, negsuc, ◌-ℤ◌, ◌*ℤ◌, neg_ℤ, nat_abs, ◌≤ℤ◌, sym, refl, ap, ◌∙◌, subst, le_trans, le_of_lt, le_antisymm, zero-mul, arith, le→leb, ltb→lt, leb→le, ltb-false, ltb-true}
use lib.IntN.{neg_ℤ-neg_ℤ, neg_ℤ-+ℤ}
use lib.Signed.{lt_z, le_z, ≤ℤ_refl, lt_z_no, clash_ℤ}

pub le_z_refl : (a : ℤ) → T (le_z a a)
le_z_refl a = (≤ℤ_refl a).le

-- a test that failed
pub not_lt_z : (a b : ℤ) → lt_z a b ≡ false → T (le_z b a)
not_lt_z a b h = let k : b ≤ℤ a = lt_z_no {a = a} {b = b} (subst (λ (x : Bool). T (not x)) (sym h) tt) in k.le

pub lt_z_le_z : (a b : ℤ) → T (lt_z a b) → T (le_z a b)
lt_z_le_z (pos a) (pos b) h = le→leb a b (le_of_lt (ltb→lt a b h))
lt_z_le_z (pos a) (negsuc b) h = absurd h
lt_z_le_z (negsuc a) (pos b) h = tt
lt_z_le_z (negsuc a) (negsuc b) h = le→leb b a (le_of_lt (ltb→lt b a h))

pub le_z_trans : (a b c : ℤ) → T (le_z a b) → T (le_z b c) → T (le_z a c)
le_z_trans (pos a) (pos b) (pos c) h k = le→leb a c (le_trans (leb→le a b h) (leb→le b c k))
le_z_trans (pos a) (pos b) (negsuc c) h k = absurd k
le_z_trans (pos a) (negsuc b) c h k = absurd h
le_z_trans (negsuc a) b (pos c) h k = tt
le_z_trans (negsuc a) (pos b) (negsuc c) h k = absurd k
le_z_trans (negsuc a) (negsuc b) (negsuc c) h k = le→leb c a (le_trans (leb→le c b k) (leb→le b a h))

pub clash : (a b : ℤ) → T (lt_z a b) → T (le_z b a) → ⊥
clash a b h k = clash_ℤ {X = ⊥} {a = a} {b = b} (record { lt = h }) (record { le = k })

le_z_antisym : (a b : ℤ) → T (le_z a b) → T (le_z b a) → a ≡ b
le_z_antisym (pos a) (pos b) h k = ap pos (le_antisymm (leb→le a b h) (leb→le b a k))
le_z_antisym (pos a) (negsuc b) h k = absurd h
le_z_antisym (negsuc a) (pos b) h k = absurd k
le_z_antisym (negsuc a) (negsuc b) h k = ap negsuc (le_antisymm (leb→le a b k) (leb→le b a h))

pub ≤ℤ_antisym : {a b : ℤ} → a ≤ℤ b → b ≤ℤ a → a ≡ b
≤ℤ_antisym {a} {b} h k = le_z_antisym a b h.le k.le

-- ---- -a, for a natural number a
pub neg_le : (a n : ℕ) → suc n ≤ a → T (le_z (neg_ℤ (pos a)) (negsuc n))
neg_le zero n h = none n h
  where
    none : (n : ℕ) → suc n ≤ 0 → ⊥
    none n h = omega arith
neg_le (suc a) n h = le→leb n a (omega arith)

pub le_neg : (a n : ℕ) → T (le_z (neg_ℤ (pos a)) (negsuc n)) → suc n ≤ a
le_neg zero n h = absurd h
le_neg (suc a) n h = omega (arith, leb→le n a h)

pub neg_le_pos : (a n : ℕ) → T (le_z (neg_ℤ (pos a)) (pos n))
neg_le_pos zero n = le→leb 0 n (omega arith)
neg_le_pos (suc a) n = tt

-- ---- sizes and differences
pub nat_abs_neg : (z : ℤ) → nat_abs (neg_ℤ z) ≡ nat_abs z
nat_abs_neg (pos zero) = refl
nat_abs_neg (pos (suc n)) = refl
nat_abs_neg (negsuc n) = refl

-- | a - b |, and | a + b |
pub apart : (a b : ℕ) → nat_abs (pos a -ℤ pos b) ≡ a - b + (b - a)
apart a zero = omega arith
apart a (suc b) = go (ltb a (suc b)) refl
  where
    go : (x : Bool) → ltb a (suc b) ≡ x → nat_abs (cond x (negsuc (suc b - suc a)) (pos (a - suc b))) ≡ a - suc b + (suc b - a)
    go true e = omega (arith, ltb-true a (suc b) e)
    go false e = omega (arith, ltb-false a (suc b) e)

pub across : (a b : ℕ) → nat_abs (pos a -ℤ neg_ℤ (pos b)) ≡ a + b
across a zero = refl
across a (suc b) = refl

pub apart_neg : (u w : ℤ) → nat_abs (neg_ℤ u -ℤ neg_ℤ w) ≡ nat_abs (u -ℤ w)
apart_neg u w = ap nat_abs (sym (neg_ℤ-+ℤ u (neg_ℤ w))) ∙ nat_abs_neg (u -ℤ w)

pub neg_mul : (j : ℤ) (d : ℕ) → neg_ℤ j *ℤ pos d ≡ neg_ℤ (j *ℤ pos d)
neg_mul (pos zero) d = rw zero-mul
neg_mul (pos (suc i)) d = refl
neg_mul (negsuc i) d = sym (neg_ℤ-neg_ℤ (pos (suc i * d)))
