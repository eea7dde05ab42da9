use Prim.Native.Nat.{ℕ}
use mathlib.Core.Path.{ap, ◌∙◌}
use mathlib.Core.List.{List}
use lib.ListN.{length, set}
use Rattle.capi.proofs.Striped.{put_four}
use Rattle.capi.proofs.build_stripes.put_stats.Goals as goal

pub returns : goal.returns
returns c =
    let a = c.args in
    ap (λ (l : List ℕ). set (set (set (set l 0 a.told.segments) 1 a.told.stripes) 2 a.told.entries) 3 a.told.fullest) c.requires.1
    ∙ put_four (length a.stats.now) a.told.segments a.told.stripes a.told.entries a.told.fullest c.requires.0
