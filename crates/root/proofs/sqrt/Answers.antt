-- `root::sqrt` meets its contract: each way out has the value that `sqrt_of` computes. Assumes nothing.
use mathlib.Core.Path.{sym, ap, subst, ◌∙◌}
use lib.Dec.{T}
use lib.Ieee.{binary64, of_bits, div}
use lib.Ieee.Bits.{of_bits-to_bits}
use Rattle.root.specs.Computed.{sqrt_of}
use Rattle.root.proofs.Ends.{above_zero, positive_bits, finite_bits, below_zero, stays, meets}
use Rattle.root.proofs.sqrt.Goals as goal

pub root_bits-requires : goal.root_bits-requires
root_bits-requires c =
    positive_bits _ (subst T (sym c.well_formed.0.1) tt)
    (above_zero _ _ c.is_finite.ensures c.if-x-is_finite.true)

pub float_from_bits-result : goal.float_from_bits-result
float_from_bits-result c = finite_bits _ c.root_bits.ensures.finite

pub returns-then-x-is_finite : goal.returns-then-x-is_finite
returns-then-x-is_finite c =
    let fit = subst T (sym c.well_formed.0.1) tt in
    let both = meets binary64 _ _ fit (c.root_bits.ensures.root ∙ ap (sqrt_of binary64) (of_bits-to_bits binary64 _ fit)) in record { meets = both.0; computed = both.1 }

pub returns-then-x : goal.returns-then-x
unfolding div of_bits
returns-then-x c =
    let both = meets binary64 _ _ (subst T (sym c.well_formed.0.1) tt) (sym (below_zero binary64 _ c.if-x.true)) in record { meets = both.0; computed = both.1 }

pub returns : goal.returns
returns c =
    let both = meets binary64 _ _ (subst T (sym c.well_formed.0.1) tt)
    (stays binary64 _ _ c.is_finite.ensures c.if-x-is_finite.false c.if-x.false) in record { meets = both.0; computed = both.1 }
