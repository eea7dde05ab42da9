-- Case splits on an order and on an equation of numbers, and two accounts of one pair.
use Prim.Native.Nat.{ℕ, ◌≤◌, ◌<◌}
use mathlib.Core.Path.{◌≡◌, sym, ap, ◌∙◌}
use mathlib.Core.Logic.{◌⊎◌, inl, inr}
use native.Mathlib.Omega.{arith}
use native.Mathlib.Decide.{dec_lt, ℕ_discrete}

pub lt_or : (a b : ℕ) → (a < b) ⊎ (b ≤ a)
lt_or a b = elim (dec_lt a b) [ yes h ↦ inl h | no h ↦ inr (omega arith) ]

pub eq_or : (a b : ℕ) → (a ≡ b) ⊎ (a ≡ b → ⊥)
eq_or a b = elim (ℕ_discrete a b) [ yes h ↦ inl h | no h ↦ inr h ]

-- two accounts of one call agree in the answer and in the room
pub both : {A B : Type 0} {y : A × B} {a a' : A} {b b' : B} → y ≡ (a, b) → y ≡ (a', b') → (a ≡ a') × (b ≡ b')
both {A} {B} p e = let q = sym p ∙ e in (ap (λ (y : A × B). y.0) q, ap (λ (y : A × B). y.1) q)
