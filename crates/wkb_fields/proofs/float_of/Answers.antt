use mathlib.Core.Path.{sym, subst, ◌∙◌}
use mathlib.Core.Bool.{not, Bool}
use lib.Dec.{T}
use lib.Ieee.{binary64, div, of_bits}
use lib.Ieee.Bits.{nan_bits_above, nan_bits_is}
use borrow.Author.Tests.{le-ltb, lt-ltb}
use Rattle.wkb_fields.proofs.Fields.{is_nan_lem}
use Rattle.wkb_fields.proofs.float_of.Goals as goal

pub returns-then-bits-gt9218868437227405312 : goal.returns-then-bits-gt9218868437227405312
unfolding div of_bits
returns-then-bits-gt9218868437227405312 c = sym (is_nan_lem c.args.bits (sym (nan_bits_is binary64 c.args.bits) ∙ nan_bits_above binary64 c.args.bits ∙ lt-ltb _ _ c.if-bits-gt9218868437227405312.true))

pub float_from_bits-result : goal.float_from_bits-result
float_from_bits-result c =
    subst (λ (b : Bool). T (not b)) (sym (nan_bits_above binary64 c.args.bits ∙ le-ltb _ _ c.if-bits-gt9218868437227405312.false)) tt
