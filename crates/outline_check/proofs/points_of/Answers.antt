use Rattle.std.proofs.Common.{rules, ◌≡◌, ◌∙◌, sum}
use Rattle.outline_check.proofs.Starts.{start_all}
use Rattle.outline_check.proofs.points_of.Goals as goal

pub returns : goal.returns
returns c = let e : c.sum.result ≡ sum c.args.sizes.now = search rules in e ∙ start_all c.args.sizes.now
