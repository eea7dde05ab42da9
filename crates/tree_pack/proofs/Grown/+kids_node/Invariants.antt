use Rattle.std.proofs.Common.{length, ◌+◌, ◌*◌}
use Rattle.tree_pack.proofs.Grown.+kids_node.Given as goal

abbrev pub decreases-kids : goal.decreases-kids
decreases-kids l = l.self.left * 6 + 1 + length l.counts.now

abbrev pub decreases-node : goal.decreases-node
decreases-node l = l.self.left * 6
