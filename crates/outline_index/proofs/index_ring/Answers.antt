-- `outline_index::index_ring` meets its contract. Assumes nothing.
use Rattle.std.proofs.Common.{◌≡◌, Result, Ok, Err, Some, None, refl, sym, ap, ◌∙◌}
use Rattle.std.specs.Result.{result_ok}
use Rattle.answers.specs.declared.Refusal.{Refusal}
use Rattle.rings.specs.Ring.{wide}
use Rattle.stripes_build.specs.Build.{StripesBuilt}
use Rattle.tree_build.specs.Build.{TreeBuilt}
use Rattle.outline_index.proofs.Steps.{stepped, stripes_short, tree_short}
use Rattle.outline_index.proofs.index_ring.Goals as goal

-- what `ok` keeps of an answer
kept : {A : Type 0} (r : Result A Refusal) (x : A) → result_ok r ≡ Some x → r ≡ Ok x
kept (Ok y) x e = cc
kept (Err why) x e = cc

dropped : {A : Type 0} (r : Result A Refusal) → result_ok r ≡ None → (why : Refusal) × (r ≡ Err why)
dropped (Ok y) e = cc
dropped (Err why) e = (why, refl)

pub returns-in_err-striped : goal.returns-in_err-striped
returns-in_err-striped c =
    let a = c.args in
    let no = dropped c.put_stripes.result (sym c.ok.ensures.value ∙ c.in_err-striped.was) in
    stripes_short a.options (wide a.ring.now) a.points a.at a.stripes.now a.list.now a.bytes.now a.work.now no.0 _ _ _ _ _
    (c.put_stripes.ensures ∙ ap (λ (x : StripesBuilt). (x, c.put_stripes.new.stripes, c.put_stripes.new.list)) no.1)
    c.from_residual.ensures

pub returns-in_err-treed : goal.returns-in_err-treed
returns-in_err-treed c =
    let a = c.args in
    let no = dropped c.put_tree.result (sym c.ok-2.ensures.value ∙ c.in_err-treed.was) in
    tree_short a.options (wide a.ring.now) a.points a.at a.stripes.now a.list.now a.bytes.now a.work.now no.0 _ _ _ _ _
    (c.put_tree.ensures ∙ ap (λ (x : TreeBuilt). (x, c.put_tree.new.bytes, c.put_tree.new.work)) no.1)
    c.from_residual-in_err-treed.ensures

pub returns : goal.returns
returns c =
    let a = c.args in
    stepped a.options (wide a.ring.now) a.points a.at a.stripes.now a.list.now a.bytes.now a.work.now _ _ _ _ _ _ _
    (c.put_stripes.ensures
    ∙ ap (λ (x : StripesBuilt). (x, c.put_stripes.new.stripes, c.put_stripes.new.list)) (kept c.put_stripes.result _ (sym c.ok.ensures.value ∙ c.in_ok-striped.was)))
    (c.put_tree.ensures
    ∙ ap (λ (x : TreeBuilt). (x, c.put_tree.new.bytes, c.put_tree.new.work)) (kept c.put_tree.result _ (sym c.ok-2.ensures.value ∙ c.in_ok-treed.was)))
    c.gain_of.ensures
