-- A place in the segment's box lies between i32 numbers, so it is one. Assumes nothing.
use Prim.Native.Nat.{ℕ, ◌≤◌}
use mathlib.Core.Path.{◌≡◌, refl}
use mathlib.Core.Bool.{Bool, true, false, ◌&&◌, ◌||◌, false≢true}
use native.Mathlib.Omega.{arith}
use lib.Dec.{leb}
use lib.IntN.{ℤ, pos, negsuc}
use lib.Signed.{le_z}
use mir.Syntax.{w32, w64}
use mir.Val.{SFits, to_z, of_z}
use mir.Facts.{to_z-of_z, sfits_widen}
use borrow.Author.Tests.{leb-true}
use Rattle.rings.proofs.Checks.{both}
use Rattle.grid.specs.Grid.{between, in_box}
use Rattle.grid.proofs.Shift.{between_n}

-- one of two tests of two
either : {P : Type 0} (a b c d : Bool) → (a ≡ true → b ≡ true → P) → (c ≡ true → d ≡ true → P) → (a && b || c && d) ≡ true → P
either true true c d f g e = f refl refl
either true false c d f g e = let r = both c d e in g r.0 r.1
either false b c d f g e = let r = both c d e in g r.0 r.1

pub between_cases : {P : Type 0} (a b p : ℕ) → (a ≤ p → p ≤ b → P) → (b ≤ p → p ≤ a → P) → between_n a b p ≡ true → P
between_cases a b p f g =
    either (leb a p) (leb p b) (leb b p) (leb p a)
    (λ l h. f (leb-true a p l) (leb-true p b h)) (λ l h. g (leb-true b p l) (leb-true p a h))

-- a number that is not below one i32 and not above another
among : (a b p : ℤ) → SFits w32 a → SFits w32 b → le_z a p ≡ true → le_z p b ≡ true → SFits w32 p
among a (pos m) (pos n) f g l h = let k = leb-true n m h in let s = g.sfits in record { sfits = omega arith }
among a (negsuc m) (pos n) f g l h = absurd (false≢true h)
among (pos m) b (negsuc n) f g l h = absurd (false≢true l)
among (negsuc m) b (negsuc n) f g l h = let k = leb-true n m l in let s = f.sfits in record { sfits = omega arith }

between_fits : (a b p : ℤ) → SFits w32 a → SFits w32 b → between a b p ≡ true → SFits w32 p
between_fits a b p f g = either (le_z a p) (le_z p b) (le_z b p) (le_z p a) (among a b p f g) (among b a p g f)

pub box_fits : (ax ay bx by px py : ℤ) → SFits w32 ax → SFits w32 ay → SFits w32 bx → SFits w32 by → in_box ax ay bx by px py ≡ true → SFits w32 px × SFits w32 py
box_fits ax ay bx by px py fax fay fbx fby box =
    let r = both (between ax bx px) (between ay by py) box in
    (between_fits ax bx px fax fbx r.0, between_fits ay by py fay fby r.1)

-- a coordinate that was widened and handed on is the coordinate
pub widened : (r z : ℤ) → r ≡ to_z w32 (of_z w32 z) → SFits w32 z → to_z w64 (of_z w64 r) ≡ z
widened r z e f = rw (e, to_z-of_z f) (to_z-of_z {w = w64} (sfits_widen {w = w32} {w' = w64} tt f))
