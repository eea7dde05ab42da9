-- `floats::next_up` meets its contract: std's answer is the same value. Assumes nothing.
use mathlib.Core.Path.{sym, subst, ◌∙◌}
use lib.Dec.{T}
use Rattle.floats.proofs.Next.{std_next}
use Rattle.floats.proofs.NextUp.{next_up_promise}
use Rattle.floats.proofs.next_up.Goals as goal

pub returns : goal.returns
returns c =
    let fit = subst T (sym c.well_formed.0.1) tt in
    let both = next_up_promise _ _ fit (c.next_up.ensures ∙ std_next _ fit) in record { meets = both.0; computed = both.1 }
