-- What the sign of an area tells. Assumes nothing.
use Prim.Native.Nat.{ℕ, zero, suc, ◌+◌}
use mathlib.Core.Path.{◌≡◌, refl, sym, ap, ap₂, ◌∙◌}
use mathlib.Core.Bool.{cond}
use native.Mathlib.Omega.{arith}
use lib.Dec.{ltb}
use lib.IntN.{ℤ, pos, negsuc, neg_ℤ, ◌-ℤ◌}
use lib.Signed.{lt_z}
use borrow.Author.Tests.{lt-ltb}
use Rattle.rings.proofs.Whole.{ltb_same, diff, diff_pos, diff_sub, diff_lt, above_zero}
use Rattle.turn.specs.declared.Turning.TheVariants.{Anticlockwise, Clockwise, None}
use Rattle.turn.specs.Turn.{turn_of}
use Rattle.turn.specs.Order.{opposite}

-- an area of 0 has no turn, and no other area has none
pub flat_none : turn_of (pos 0) ≡ None
unfolding turn_of
flat_none = refl

pub none_flat : (area : ℤ) → turn_of area ≡ None → area ≡ pos 0
unfolding turn_of
none_flat (pos zero) e = refl
none_flat (pos (suc n)) e = let turns : Anticlockwise ≡ None = rw (lt-ltb 0 (suc n) (omega arith)) at e in cc
none_flat (negsuc n) e = cc

-- an area negated has the opposite turn
pub opposite_turn : (area : ℤ) → turn_of (neg_ℤ area) ≡ opposite (turn_of area)
unfolding turn_of
opposite_turn (pos zero) = refl
opposite_turn (pos (suc n)) = rw (lt-ltb 0 (suc n) (omega arith))
opposite_turn (negsuc n) = rw (lt-ltb 0 (suc n) (omega arith))

-- of a difference of numbers of ℕ the greater tells the turn
difference : (p m : ℕ) → pos p -ℤ pos m ≡ diff p m
difference p m =
    let same : diff (p + 0) (0 + m) ≡ diff p m = ap₂ diff (omega arith) (omega arith) in
    ap₂ ◌-ℤ◌ (sym (diff_pos p 0 p (omega arith))) (sym (diff_pos m 0 m (omega arith))) ∙ diff_sub p 0 m 0 ∙ same

pub turn_of_lem : (p m : ℕ) → turn_of (pos p -ℤ pos m) ≡ cond (ltb m p) Anticlockwise (cond (ltb p m) Clockwise None)
unfolding turn_of
turn_of_lem p m =
    let zero_is = sym (diff_pos 0 0 0 refl) in
    let below = ap (λ (z : ℤ). lt_z (diff p m) z) zero_is ∙ diff_lt p m 0 0 ∙ ltb_same (p + 0) (0 + m) p m (λ h. omega arith) (λ h. omega arith) in
    rw (difference p m, above_zero p m, below)
