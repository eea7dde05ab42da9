use Rattle.tree.specs.Search.{searched}
use Rattle.tree_find.specs.Inner.Walks.{poured}
use Rattle.tree_find.proofs.search.Goals as goal

pub returns-then-meets_height : goal.returns-then-meets_height
unfolding searched
returns-then-meets_height g c = rw (← c.meets_height.ensures, c.if-meets_height.true) c.node.ensures

pub returns-else-meets_height : goal.returns-else-meets_height
unfolding searched poured
returns-else-meets_height g c = rw (← c.meets_height.ensures, c.if-meets_height.false)
