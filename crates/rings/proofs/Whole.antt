-- Whole numbers as differences of two numbers of ℕ, which `omega` reads: each operation and each test on ℤ, said of the two.
-- Assumes nothing.
use Prim.Native.Nat.{ℕ, zero, suc, ◌+◌, ◌*◌, ◌-◌, ◌<◌, ◌≤◌}
use mathlib.Core.Path.{◌≡◌, refl, sym, ap, ap₂, ◌∙◌}
use mathlib.Core.Bool.{Bool, true, false, false≢true}
use native.Mathlib.Omega.{arith}
use native.Mathlib.Decide.{dec_lt, dec_le, ℕ_discrete}
use lib.Dec.{ltb, leb, eqb}
use lib.IntN.{ℤ, pos, negsuc, neg_ℤ, sub_ℕ, ◌+ℤ◌, ◌-ℤ◌, ◌*ℤ◌, pos-ne-negsuc}
use lib.Signed.{lt_z, le_z, mag}
use mir.Syntax.{Width}
use mir.Val.{SFits, of_z, to_z, hbits}
use mir.Facts.{to_z-of_z, to_z_pos}
use lib.Pow.{pow_pos}
use borrow.Author.Tests.{eqb-true, lt-ltb, le-ltb, ltb-true, ltb-false, le-leb, lt-leb, eq-eqb, ne_eqb}
use Rattle.rings.specs.Checks.{eq_z}

-- tests on numbers that hold together
pub ltb_same : (a b c d : ℕ) → (a < b → c < d) → (c < d → a < b) → ltb a b ≡ ltb c d
ltb_same a b c d f g =
    elim (dec_lt a b) [
      | yes h ↦ lt-ltb a b h ∙ sym (lt-ltb c d (f h))
      | no h ↦ let k : ¬ (c < d) = λ l. h (g l) in le-ltb a b (omega arith) ∙ sym (le-ltb c d (omega arith))
    ]

pub leb_same : (a b c d : ℕ) → (a ≤ b → c ≤ d) → (c ≤ d → a ≤ b) → leb a b ≡ leb c d
leb_same a b c d f g =
    elim (dec_le a b) [
      | yes h ↦ le-leb a b h ∙ sym (le-leb c d (f h))
      | no h ↦ let k : ¬ (c ≤ d) = λ l. h (g l) in lt-leb a b (omega arith) ∙ sym (lt-leb c d (omega arith))
    ]

pub eqb_same : (a b c d : ℕ) → (a ≡ b → c ≡ d) → (c ≡ d → a ≡ b) → eqb a b ≡ eqb c d
eqb_same a b c d f g =
    elim (ℕ_discrete a b) [
      | yes h ↦ eq-eqb a b h ∙ sym (eq-eqb c d (f h))
      | no h ↦ ne_eqb a b h ∙ sym (ne_eqb c d (λ l. h (g l)))
    ]

-- p - n
unfoldable pub diff : ℕ → ℕ → ℤ
diff p n = sub_ℕ p n

pub diff_pos : (p n k : ℕ) → p ≡ n + k → diff p n ≡ pos k
unfolding diff
diff_pos p n k e = let s : p - n ≡ k = omega arith in rw (le-ltb p n (omega arith), s)

pub diff_negsuc : (p n k : ℕ) → n ≡ p + suc k → diff p n ≡ negsuc k
unfolding diff
diff_negsuc p n k e = let s : n - suc p ≡ k = omega arith in rw (lt-ltb p n (omega arith), s)

-- what a difference is, and by how much
pub data Form (p n : ℕ) : Type 0 where
  over : (k : ℕ) → p ≡ n + k → diff p n ≡ pos k → Form p n
  under : (k : ℕ) → n ≡ p + suc k → diff p n ≡ negsuc k → Form p n

pub form : (p n : ℕ) → Form p n
form p n = go (ltb p n) refl
  where
    go : (t : Bool) → ltb p n ≡ t → Form p n
    go true e = let h : p < n = ltb-true p n e in let s : n ≡ p + suc (n - suc p) = omega arith in under (n - suc p) s (diff_negsuc p n (n - suc p) s)
    go false e = let h : n ≤ p = ltb-false p n e in let s : p ≡ n + (p - n) = omega arith in over (p - n) s (diff_pos p n (p - n) s)

pub diff_same : (p n q m : ℕ) → p + m ≡ q + n → diff p n ≡ diff q m
diff_same p n q m e = go (form p n)
  where
    go : Form p n → diff p n ≡ diff q m
    go (over k s d) = d ∙ sym (diff_pos q m k (omega arith))
    go (under k s d) = d ∙ sym (diff_negsuc q m k (omega arith))

pub diff_add : (p n q m : ℕ) → diff p n +ℤ diff q m ≡ diff (p + q) (n + m)
unfolding diff
diff_add p n q m = go (form p n) (form q m)
  where
    go : Form p n → Form q m → diff p n +ℤ diff q m ≡ diff (p + q) (n + m)
    go (over k s d) (over j t e) = ap₂ ◌+ℤ◌ d e ∙ sym (diff_pos (p + q) (n + m) (k + j) (omega arith))
    go (over k s d) (under j t e) = ap₂ ◌+ℤ◌ d e ∙ diff_same k (suc j) (p + q) (n + m) (omega arith)
    go (under k s d) (over j t e) = ap₂ ◌+ℤ◌ d e ∙ diff_same j (suc k) (p + q) (n + m) (omega arith)
    go (under k s d) (under j t e) = ap₂ ◌+ℤ◌ d e ∙ sym (diff_negsuc (p + q) (n + m) (suc (k + j)) (omega arith))

neg_pos : (k : ℕ) → neg_ℤ (pos k) ≡ diff 0 k
neg_pos zero = sym (diff_pos 0 0 0 refl)
neg_pos (suc k) = sym (diff_negsuc 0 (suc k) k (omega arith))

pub diff_neg : (p n : ℕ) → neg_ℤ (diff p n) ≡ diff n p
diff_neg p n = go (form p n)
  where
    go : Form p n → neg_ℤ (diff p n) ≡ diff n p
    go (over k s d) = ap neg_ℤ d ∙ neg_pos k ∙ diff_same 0 k n p (omega arith)
    go (under k s d) = ap neg_ℤ d ∙ sym (diff_pos n p (suc k) s)

pub diff_sub : (p n q m : ℕ) → diff p n -ℤ diff q m ≡ diff (p + m) (n + q)
diff_sub p n q m = ap (λ (z : ℤ). diff p n +ℤ z) (diff_neg q m) ∙ diff_add p n m q

pub diff_mul : (p n q m : ℕ) → diff p n *ℤ diff q m ≡ diff (p * q + n * m) (p * m + n * q)
diff_mul p n q m = go (form p n) (form q m)
  where
    go : Form p n → Form q m → diff p n *ℤ diff q m ≡ diff (p * q + n * m) (p * m + n * q)
    go (over k s d) (over j t e) = ap₂ ◌*ℤ◌ d e ∙ sym (diff_pos (p * q + n * m) (p * m + n * q) (k * j) (rw (s, t) (omega arith)))
    go (over k s d) (under j t e) = ap₂ ◌*ℤ◌ d e ∙ neg_pos (k * suc j) ∙ diff_same 0 (k * suc j) (p * q + n * m) (p * m + n * q) (rw (s, t) (omega arith))
    go (under k s d) (over j t e) = ap₂ ◌*ℤ◌ d e ∙ neg_pos (suc k * j) ∙ diff_same 0 (suc k * j) (p * q + n * m) (p * m + n * q) (rw (s, t) (omega arith))
    go (under k s d) (under j t e) = ap₂ ◌*ℤ◌ d e ∙ sym (diff_pos (p * q + n * m) (p * m + n * q) (suc k * suc j) (rw (s, t) (omega arith)))

pub diff_lt : (p n q m : ℕ) → lt_z (diff p n) (diff q m) ≡ ltb (p + m) (q + n)
diff_lt p n q m = go (form p n) (form q m)
  where
    go : Form p n → Form q m → lt_z (diff p n) (diff q m) ≡ ltb (p + m) (q + n)
    go (over k s d) (over j t e) = ap₂ lt_z d e ∙ ltb_same k j (p + m) (q + n) (λ h. omega arith) (λ h. omega arith)
    go (over k s d) (under j t e) = ap₂ lt_z d e ∙ sym (le-ltb (p + m) (q + n) (omega arith))
    go (under k s d) (over j t e) = ap₂ lt_z d e ∙ sym (lt-ltb (p + m) (q + n) (omega arith))
    go (under k s d) (under j t e) = ap₂ lt_z d e ∙ ltb_same j k (p + m) (q + n) (λ h. omega arith) (λ h. omega arith)

pub diff_le : (p n q m : ℕ) → le_z (diff p n) (diff q m) ≡ leb (p + m) (q + n)
diff_le p n q m = go (form p n) (form q m)
  where
    go : Form p n → Form q m → le_z (diff p n) (diff q m) ≡ leb (p + m) (q + n)
    go (over k s d) (over j t e) = ap₂ le_z d e ∙ leb_same k j (p + m) (q + n) (λ h. omega arith) (λ h. omega arith)
    go (over k s d) (under j t e) = ap₂ le_z d e ∙ sym (lt-leb (p + m) (q + n) (omega arith))
    go (under k s d) (over j t e) = ap₂ le_z d e ∙ sym (le-leb (p + m) (q + n) (omega arith))
    go (under k s d) (under j t e) = ap₂ le_z d e ∙ leb_same j k (p + m) (q + n) (λ h. omega arith) (λ h. omega arith)

pub diff_eq_z : (p n q m : ℕ) → eq_z (diff p n) (diff q m) ≡ eqb (p + m) (q + n)
diff_eq_z p n q m = go (form p n) (form q m)
  where
    go : Form p n → Form q m → eq_z (diff p n) (diff q m) ≡ eqb (p + m) (q + n)
    go (over k s d) (over j t e) = ap₂ eq_z d e ∙ eqb_same k j (p + m) (q + n) (λ h. omega arith) (λ h. omega arith)
    go (over k s d) (under j t e) = ap₂ eq_z d e ∙ sym (ne_eqb (p + m) (q + n) (λ h. omega arith))
    go (under k s d) (over j t e) = ap₂ eq_z d e ∙ sym (ne_eqb (p + m) (q + n) (λ h. omega arith))
    go (under k s d) (under j t e) = ap₂ eq_z d e ∙ eqb_same k j (p + m) (q + n) (λ h. omega arith) (λ h. omega arith)

-- every whole number is a difference
pub whole {ℓ} : (P : ℤ → Type ℓ) → ((p n : ℕ) → P (diff p n)) → (z : ℤ) → P z
whole P h (pos k) = rw (diff_pos k 0 k (omega arith)) at (h k 0)
whole P h (negsuc k) = rw (diff_negsuc 0 (suc k) k (omega arith)) at (h 0 (suc k))

pub eq_z_true : (a b : ℤ) → eq_z a b ≡ true → a ≡ b
eq_z_true (pos a) (pos b) e = ap pos (eqb-true a b e)
eq_z_true (pos a) (negsuc b) e = absurd (false≢true e)
eq_z_true (negsuc a) (pos b) e = absurd (false≢true e)
eq_z_true (negsuc a) (negsuc b) e = ap negsuc (eqb-true a b e)

-- two numbers are equal when their bits are
pub eq_bits : (w : Width) (a b : ℤ) → SFits w a → SFits w b → eqb (of_z w a) (of_z w b) ≡ eq_z a b
eq_bits w a b fa fb = go a b fa fb (λ e. sym (to_z-of_z fa) ∙ ap (to_z w) e ∙ to_z-of_z fb)
  where
    go : (a b : ℤ) → SFits w a → SFits w b → (of_z w a ≡ of_z w b → a ≡ b) → eqb (of_z w a) (of_z w b) ≡ eq_z a b
    go (pos a) (pos b) f g h = refl
    go (pos a) (negsuc b) f g h = ne_eqb _ _ (λ e. pos-ne-negsuc a b (h e))
    go (negsuc a) (pos b) f g h = ne_eqb _ _ (λ e. pos-ne-negsuc b a (sym (h e)))
    go (negsuc a) (negsuc b) f g h = eqb_same (of_z w (negsuc a)) (of_z w (negsuc b)) a b (λ e. ap mag (h e)) (λ e. ap (λ (k : ℕ). of_z w (negsuc k)) e)

pub zero_bits : (w : Width) (z : ℤ) → SFits w z → of_z w z ≡ 0 → eq_z z (pos 0) ≡ true
zero_bits w z f e = rw (← (to_z-of_z f), e, to_z_pos w (pow_pos (hbits w)))

pub some_bits : (w : Width) (z : ℤ) → (of_z w z ≡ 0 → ⊥) → eq_z z (pos 0) ≡ false
some_bits w (pos n) h = ne_eqb n 0 h
some_bits w (negsuc n) h = refl

-- numbers at one distance are compared as the numbers themselves
module _ (o a b : ℕ) where
  pub lt_shift : lt_z (diff a o) (diff b o) ≡ ltb a b
  lt_shift = diff_lt a o b o ∙ ltb_same (a + o) (b + o) a b (λ h. omega arith) (λ h. omega arith)

  pub le_shift : le_z (diff a o) (diff b o) ≡ leb a b
  le_shift = diff_le a o b o ∙ leb_same (a + o) (b + o) a b (λ h. omega arith) (λ h. omega arith)

-- any three whole numbers are numbers less one and the same
pub shifted : (P : ℤ → ℤ → ℤ → Type 0) → ((o a b c : ℕ) → P (diff a o) (diff b o) (diff c o)) → (x y z : ℤ) → P x y z
shifted P h x y z =
    whole (λ x. P x y z) (λ p n. whole (λ y. P (diff p n) y z) (λ q m. whole (λ z. P (diff p n) (diff q m) z) (λ r k. at p n q m r k) z) y) x
  where
    at : (p n q m r k : ℕ) → P (diff p n) (diff q m) (diff r k)
    at p n q m r k =
        let o = n + m + k in
        let a : diff p n ≡ diff (p + m + k) (n + m + k) = diff_same p n (p + m + k) (n + m + k) (omega arith) in
        let b : diff q m ≡ diff (q + n + k) (n + m + k) = diff_same q m (q + n + k) (n + m + k) (omega arith) in
        let c : diff r k ≡ diff (r + n + m) (n + m + k) = diff_same r k (r + n + m) (n + m + k) (omega arith) in
        rw (a, b, c) (h (n + m + k) (p + m + k) (q + n + k) (r + n + m))

-- the sign of a difference
module _ (p n : ℕ) where
  pub is_zero : eq_z (diff p n) (pos 0) ≡ eqb p n
  is_zero = ap (eq_z (diff p n)) (sym (diff_pos 0 0 0 refl)) ∙ diff_eq_z p n 0 0 ∙ eqb_same (p + 0) (0 + n) p n (λ h. omega arith) (λ h. omega arith)

  pub above_zero : lt_z (pos 0) (diff p n) ≡ ltb n p
  above_zero = ap (λ (z : ℤ). lt_z z (diff p n)) (sym (diff_pos 0 0 0 refl)) ∙ diff_lt 0 0 p n ∙ ltb_same (0 + n) (p + 0) n p (λ h. omega arith) (λ h. omega arith)

pub eq_z_refl : (z : ℤ) → eq_z z z ≡ true
eq_z_refl (pos n) = eq-eqb n n refl
eq_z_refl (negsuc n) = eq-eqb n n refl

pub diff_inj : (p n q m : ℕ) → diff p n ≡ diff q m → p + m ≡ q + n
diff_inj p n q m e = eqb-true (p + m) (q + n) (sym (diff_eq_z p n q m) ∙ ap (λ (z : ℤ). eq_z z (diff q m)) e ∙ eq_z_refl (diff q m))

-- the parts of a whole number above and below 0
pub up : ℤ → ℕ
up (pos n) = n
up (negsuc n) = 0

pub down : ℤ → ℕ
down (pos n) = 0
down (negsuc n) = suc n

-- so an identity of whole numbers is one of ℕ: `rw (split a, split b)`, then the laws above, then `diff_same` and `omega`
pub split : (z : ℤ) → z ≡ diff (up z) (down z)
unfolding up down
split (pos n) = sym (diff_pos n 0 n (omega arith))
split (negsuc n) = sym (diff_negsuc 0 (suc n) n (omega arith))
