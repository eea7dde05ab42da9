-- 01, "Whole-number test": the cross, in the mathematical integers, and its sign. The names are 01's: (ax, ay) and (bx, by) are the ends, (px, py) is p.
use Rattle.std.specs.Prelude.{zero, suc, ℤ, pos, negsuc, ◌-ℤ◌, ◌*ℤ◌}
use Rattle.cross.specs.declared.Sign.{Sign}
use Rattle.cross.specs.declared.Sign.TheVariants.{Below, Zero, Above}

-- "cross = (bx-ax)(py-ay) - (by-ay)(px-ax)"
unfoldable pub cross : ℤ → ℤ → ℤ → ℤ → ℤ → ℤ → ℤ
cross ax ay bx by px py = (bx -ℤ ax) *ℤ (py -ℤ ay) -ℤ (by -ℤ ay) *ℤ (px -ℤ ax)

-- the sign of a whole number; `negsuc n` is -(n + 1)
abbrev pub sign_of : ℤ → Sign
sign_of (negsuc n) = Below
sign_of (pos zero) = Zero
sign_of (pos (suc n)) = Above
