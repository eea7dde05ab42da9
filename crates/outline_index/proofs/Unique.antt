-- Whatever is given, any two outcomes that meet the promise of a public function here are equal. Assumes nothing.
use mathlib.Core.Path.{sym, ◌∙◌}
use Rattle.outcome.specs.OneOutcome.{OneOutcome}
use Rattle.outline_index.specs.contracts.BuildOptions.default_options
use Rattle.outline_index.proofs.BuildOptions.default_options.Reads as default_options_reads
use Rattle.outline_index.specs.contracts.BuildOptions.gives_stripes
use Rattle.outline_index.proofs.BuildOptions.gives_stripes.Reads as gives_stripes_reads
use Rattle.outline_index.specs.contracts.BuildOptions.gives_tree
use Rattle.outline_index.proofs.BuildOptions.gives_tree.Reads as gives_tree_reads
use Rattle.outline_index.specs.contracts.BuildOptions.says_under
use Rattle.outline_index.proofs.BuildOptions.says_under.Reads as says_under_reads

pub one_default_options : OneOutcome default_options.ended default_options_reads.Post
one_default_options _ _ _ _ _ _ p q = p ∙ sym q

pub one_gives_stripes : OneOutcome gives_stripes.ended gives_stripes_reads.Post
one_gives_stripes _ _ _ _ _ _ p q = p ∙ sym q

pub one_gives_tree : OneOutcome gives_tree.ended gives_tree_reads.Post
one_gives_tree _ _ _ _ _ _ p q = p ∙ sym q

pub one_says_under : OneOutcome says_under.ended says_under_reads.Post
one_says_under _ _ _ _ _ _ p q = p ∙ sym q
