-- `tree_part::mark` meets its contract.
use mathlib.Core.Path.{ap, ◌∙◌}
use Prim.Native.Nat.{ℕ, ◌+◌, ◌*◌}
use Rattle.boxes.specs.Quads.{chosen}
use Rattle.boxes.specs.Segments.{rect_of}
use Rattle.tree_part.specs.Inner.Halves.{class_of_of, marked}
use Rattle.tree_part.proofs.mark.Goals as goal

pub returns : goal.returns
unfolding marked
returns c =
    let a = c.args in
    ap (λ (k : ℕ). a.x + 4096 * k)
    (c.class_of.ensures
    ∙ ap class_of_of
    (c.choose_quad.ensures
    ∙ ap (chosen a.bounds) (c.rect.ensures ∙ ap rect_of c.segment_at-segment.ensures)))
