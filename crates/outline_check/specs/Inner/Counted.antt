-- Rules 1 and 2 by themselves, and what an outline that passes rules 1 to 3 is, as a fact on its numbers.
use Rattle.std.specs.Prelude.{Ok, ℕ, ◌*◌, ◌≤◌, ◌<◌, ◌≡◌, List, not, ltb, length, ℤ}
use Rattle.answers.specs.declared.Refusal.TheVariants.{TooFew, TooMany}
use Rattle.rings.specs.Checks.{Checked, holding}
use Rattle.outline_check.specs.Outline.{rings, size_at, start_of}
use Rattle.outline_check.specs.Rules.{min_rings, max_rings, for_each, enough, not_over}

unfoldable pub counts_checked : List ℕ → Checked
counts_checked sizes =
    holding (not (ltb (rings sizes) min_rings)) (TooFew 0)
    (for_each (enough sizes) TooFew (rings sizes)
    (holding (not (ltb max_rings (rings sizes))) (TooMany max_rings)
    (for_each (not_over sizes) TooMany (rings sizes) (Ok tt))))

pub record Counted (sizes : List ℕ) (coords : List ℤ) : Type 0 where
  pub some : 1 ≤ rings sizes
  pub few : rings sizes ≤ 64
  pub enough : (k : ℕ) → k < rings sizes → 2 ≤ size_at sizes k
  pub small : (k : ℕ) → k < rings sizes → size_at sizes k ≤ 4097
  pub adds : 2 * start_of sizes (rings sizes) ≡ length coords
