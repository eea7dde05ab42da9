-- `tree_part::share_out` meets its contract: what is lifted of the marked run are its five parts.
use mathlib.Core.Path.{sym, ap, ap₂, ◌∙◌}
use mathlib.Core.List.{List, map}
use Prim.Native.Nat.{ℕ}
use Rattle.rings.specs.Ring.{wide}
use Rattle.tree_part.specs.declared.Shares.{Shares}
use Rattle.tree_part.specs.Inner.Halves.{lower, classes, class_counts}
use Rattle.tree_part.proofs.Classes.{classes_parts, counts_shares, classes_fill}
use Rattle.tree_part.proofs.share_out.Goals as goal

pub lift_all-shares-requires : goal.lift_all-shares-requires
lift_all-shares-requires c =
    let a = c.args in rw c.mark_all.ensures (classes_fill (wide a.ring.now) a.bounds _ a.run.now c.requires)

pub returns : goal.returns
returns c =
    let e = ap (map lower) c.mark_all.ensures in
    sym
    (ap₂ (λ (r : Shares) (xs : List ℕ). (r, xs))
    (c.lift_all-shares.ensures.value ∙ ap class_counts e ∙ counts_shares _ _ _ _ c.requires)
    (c.settle.ensures ∙ c.lift_all-shares.ensures.run_after ∙ ap classes e ∙ classes_parts _ _ _ _ c.requires))
