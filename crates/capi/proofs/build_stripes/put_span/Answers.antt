use mathlib.Core.Path.{ap, ◌∙◌}
use mathlib.Core.List.{List}
use lib.Ieee.{Float}
use lib.ListN.{length, set}
use Rattle.capi.proofs.Striped.{put_two}
use Rattle.capi.proofs.build_stripes.put_span.Goals as goal

pub returns : goal.returns
returns c =
    let a = c.args in
    ap (λ (l : List Float). set (set l 0 a.built.least) 1 a.built.height) c.requires.1 ∙ put_two (length a.span.now) _ a.built.least a.built.height c.requires.0
