-- A whole number as a sign and an unsigned size. For functions of this crate alone.
use Rattle.std.specs.Prelude.{ℕ, Bool, true, false, ℤ, pos, neg_ℤ}
use Rattle.cross.specs.declared.Signed.{Signed}

abbrev pub signed : Bool → ℕ → ℤ
signed true n = neg_ℤ (pos n)
signed false n = pos n

-- the number that a sign and a size stand for
abbrev pub value_of : Signed → ℤ
value_of s = signed s.below s.size
