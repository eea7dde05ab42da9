-- `whole::floor_within` meets its contract. Assumes nothing.
use Prim.Native.Nat.{ℕ, min}
use mathlib.Core.Path.{ap, ◌∙◌}
use Rattle.whole.proofs.Within.{promised}
use Rattle.whole.proofs.floor_within.Goals as goal

pub returns : goal.returns
returns c =
    let top = c.args.top in
    let both = promised c.args.x top _ c.ranges.top.fits (c.min.ensures ∙ ap (λ (k : ℕ). min k top) c.saturating_f64_to_u64.ensures) in record { meets = both.0; computed = both.1 }
