use Prim.Native.Nat.{◌^◌, ◌<◌}
use lib.ListN.{get_or}
use lib.IntN.{pos}
use lib.Signed.{mag}
use borrow.Author.Rules.{rules}
use borrow.Author.Count.{below_more}
use Rattle.outline_plain.proofs.lent_numbers.Goals as goal

pub loop-number-preserved : goal.loop-number-preserved
loop-number-preserved c = below_more (λ j. mag (get_or c.args.coords.now j (pos 0)) < 2 ^ 31) _ c.loop-number.invariant (search rules)
