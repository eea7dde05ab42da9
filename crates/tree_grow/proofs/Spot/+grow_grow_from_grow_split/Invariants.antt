use Rattle.std.proofs.Common.{◌+◌, ◌-◌, ◌*◌}
use Rattle.tree_grow.proofs.Spot.+grow_grow_from_grow_split.Given as goal

abbrev pub decreases-grow : goal.decreases-grow
decreases-grow l = l.self.now.left * 8

abbrev pub decreases-grow_from : goal.decreases-grow_from
decreases-grow_from l = l.self.now.left * 8 + (5 - l.q)

abbrev pub decreases-grow_split : goal.decreases-grow_split
decreases-grow_split l = l.self.now.left * 8 + 6
