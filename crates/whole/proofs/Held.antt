-- What holds of a way of rounding holds of it held to two ends: that a function has what a relation asks, and that there is one answer. Holding keeps the order. Assumes nothing.
use Rattle.std.proofs.Common.{◌≡◌, ℕ, ◌*◌, ◌<◌, Bool, true, false, cond, T, ℤ, sym, refl, ap, ◌∙◌, subst}
use lib.Ieee.{Float, nan, inf, fin, up, down}
use lib.Ieee.Fits.{down_pos}
use lib.Signed.{lt_z, le_z}
use Rattle.whole.specs.Held.{signed, clamp, Held, held}
use Rattle.whole.proofs.Integers.{le_z_refl, le_z_trans, not_lt_z, lt_z_le_z, clash}

module _ (R : ℤ → ℕ → ℤ → Type 0) (lo hi : ℤ) where
  pub held_meets : (g : ℤ → ℕ → ℤ) → ((v : ℤ) (d : ℕ) → 0 < d → R v d (g v d)) → (x : Float) → Held R lo hi x (held g lo hi x)
  held_meets g all nan = refl
  held_meets g all (inf true) = refl
  held_meets g all (inf false) = refl
  held_meets g all (fin s m e) = (g (signed s (m * up e)) (down e), all (signed s (m * up e)) (down e) (down_pos e), refl)

  pub held_only : ((v : ℤ) (d : ℕ) (k k' : ℤ) → 0 < d → R v d k → R v d k' → k ≡ k') → (x : Float) (z z' : ℤ) → Held R lo hi x z → Held R lo hi x z' → z ≡ z'
  held_only one nan z z' p q = p ∙ sym q
  held_only one (inf true) z z' p q = p ∙ sym q
  held_only one (inf false) z z' p q = p ∙ sym q
  held_only one (fin s m e) z z' p q = p.2 ∙ ap (clamp lo hi) (one (signed s (m * up e)) (down e) p.0 q.0 (down_pos e) p.1 q.1) ∙ sym q.2

-- ---- between the ends, and rising
module _ (lo hi : ℤ) (o : T (le_z lo hi)) where
  pub clamp_low : (k : ℤ) → T (le_z lo (clamp lo hi k))
  clamp_low k = go (lt_z k lo) (lt_z hi k) refl
    where
      go : (a b : Bool) → lt_z k lo ≡ a → T (le_z lo (cond a lo (cond b hi k)))
      go true b e = le_z_refl lo
      go false true e = o
      go false false e = not_lt_z k lo e

  pub clamp_high : (k : ℤ) → T (le_z (clamp lo hi k) hi)
  clamp_high k = go (lt_z k lo) (lt_z hi k) refl
    where
      go : (a b : Bool) → lt_z hi k ≡ b → T (le_z (cond a lo (cond b hi k)) hi)
      go true b e = o
      go false true e = le_z_refl hi
      go false false e = not_lt_z hi k e

  pub clamp_mono : (j k : ℤ) → T (le_z j k) → T (le_z (clamp lo hi j) (clamp lo hi k))
  clamp_mono j k h = go (lt_z j lo) (lt_z hi j) refl refl
    where
      above : lt_z hi j ≡ true → (a b : Bool) → lt_z k lo ≡ a → T (le_z hi (cond a lo (cond b hi k)))
      above e true b u = absurd (clash hi j (subst T (sym e) tt) (le_z_trans j k hi h (le_z_trans k lo hi (lt_z_le_z k lo (subst T (sym u) tt)) o)))
      above e false true u = le_z_refl hi
      above e false false u = le_z_trans hi j k (lt_z_le_z hi j (subst T (sym e) tt)) h

      inside : lt_z hi j ≡ false → (a b : Bool) → lt_z k lo ≡ a → T (le_z j (cond a lo (cond b hi k)))
      inside e true b u = le_z_trans j k lo h (lt_z_le_z k lo (subst T (sym u) tt))
      inside e false true u = not_lt_z hi j e
      inside e false false u = h

      go : (a b : Bool) → lt_z j lo ≡ a → lt_z hi j ≡ b → T (le_z (cond a lo (cond b hi j)) (clamp lo hi k))
      go true b e u = clamp_low k
      go false true e u = above u (lt_z k lo) (lt_z hi k) refl
      go false false e u = inside u (lt_z k lo) (lt_z hi k) refl
