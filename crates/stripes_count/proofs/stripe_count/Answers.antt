-- `stripes_count::stripe_count` meets its contract. Assumes nothing.
use Rattle.std.proofs.Common.{arith}
use Rattle.stripes_count.specs.Count.{stripe_count}
use Rattle.stripes_count.proofs.stripe_count.Goals as goal

pub returns : goal.returns
unfolding stripe_count
returns c = omega (arith, c.max.ensures, simp (c.score-score.ensures, c.perimeter.ensures, c.area.ensures, c.nearest_u64_to_f64-n.ensures) at c.floor_within.ensures.computed)
