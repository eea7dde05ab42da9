-- What a result of the test says of its two conditions, and the result in the box by the sign of the cross. Assumes nothing.
use mathlib.Core.Path.{◌≡◌, refl}
use mathlib.Core.Bool.{Bool, true, false, not, cond, ◌&&◌, beq}
use lib.IntN.{ℤ}
use lib.Signed.{lt_z}
use Rattle.cross.specs.declared.Sign.TheVariants.{Below, Zero, Above}
use Rattle.cross.specs.Cross.{cross, sign_of}
use Rattle.cross.proofs.Told.{zero_tells, above_tells, below_tells}
use Rattle.grid.specs.Grid.{in_box, straddles, is_on, is_flip, result_of}
use Rattle.grid.specs.declared.GridResult.TheVariants.{OnSegment, Flips, Passes}

pub told_on : (on flip : Bool) → cond on OnSegment (cond flip Flips Passes) ≡ OnSegment → on ≡ true
told_on true flip e = refl
told_on false true e = cc
told_on false false e = cc

pub told_flips : (on flip : Bool) → cond on OnSegment (cond flip Flips Passes) ≡ Flips → (on ≡ false) × (flip ≡ true)
told_flips true flip e = (cc, cc)
told_flips false true e = (refl, refl)
told_flips false false e = (cc, cc)

pub told_passes : (on flip : Bool) → cond on OnSegment (cond flip Flips Passes) ≡ Passes → (on ≡ false) × (flip ≡ false)
told_passes true flip e = (cc, cc)
told_passes false true e = (cc, cc)
told_passes false false e = (refl, refl)

beq_true : (x : Bool) → beq true x ≡ x
beq_true true = refl
beq_true false = refl

beq_false : (x : Bool) → beq false x ≡ not x
beq_false true = refl
beq_false false = refl

-- a place in the box: "on" at a cross of zero, otherwise by the side and by which way the segment goes
module _ (ax ay bx by px py : ℤ) where
  pub near_zero : in_box ax ay bx by px py ≡ true → sign_of (cross ax ay bx by px py) ≡ Zero → OnSegment ≡ result_of ax ay bx by px py
  unfolding is_on
  near_zero box e = rw (zero_tells (cross ax ay bx by px py) e, box)

  pub near_above : sign_of (cross ax ay bx by px py) ≡ Above → cond (straddles ay by py && lt_z ay by) Flips Passes ≡ result_of ax ay bx by px py
  unfolding is_on is_flip
  near_above e = let t = above_tells (cross ax ay bx by px py) e in rw (t.0, t.1, beq_true (lt_z ay by))

  pub near_below : sign_of (cross ax ay bx by px py) ≡ Below → cond (straddles ay by py && not (lt_z ay by)) Flips Passes ≡ result_of ax ay bx by px py
  unfolding is_on is_flip
  near_below e = let t = below_tells (cross ax ay bx by px py) e in rw (t.0, t.1, beq_false (lt_z ay by))
