-- `stripes_find::list_sound` meets its contract. Assumes nothing.
use Rattle.std.specs.Prelude.{Ok, Err}
use mathlib.Core.Path.{refl, sym, ap, ap₂, ◌∙◌}
use mathlib.Core.List.{List, []}
use Prim.Native.Nat.{ℕ}
use lib.ListN.{length, replicate}
use native.Mathlib.Omega.{arith}
use Rattle.answers.proofs.Refused.{refused}
use Rattle.rings.specs.Listing.{Listed}
use Rattle.room.proofs.Fill.{pad_none}
use Rattle.rings.specs.Ring.{wide}
use Rattle.stripes_find.specs.Search.{Reading, complete, damaged_at}
use Rattle.stripes_find.specs.Listing.{poured}
use Rattle.stripes_find.proofs.Pouring.{poured_whole, poured_hurt, poured_room, searched_outside, searched_broken, searched_run}
use Rattle.stripes_find.proofs.list_sound.Goals as goal

pub returns-then-is_outside : goal.returns-then-is_outside
returns-then-is_outside c =
    let a = c.args in
    ap (λ (r : Reading). poured r a.out.now)
    (searched_outside (wide a.ring.now) a.n a.index.least a.index.height a.index.stripes.now a.index.list.now a.y (sym c.is_outside.ensures ∙ c.if-is_outside.true))
    ∙ poured_whole [] complete a.out.now (omega arith) refl
    ∙ ap (λ (o : List ℕ). (Ok 0, o)) (pad_none (length a.out.now) ∙ sym (c.fill.ensures.after (λ _ e. e)))

pub list_run-requires : goal.list_run-requires
list_run-requires c =
    let a = c.args in
    let i = a.index in
    let r = searched_run (wide a.ring.now) a.n i.least i.height i.stripes.now i.list.now a.y _ _ (sym c.is_outside.ensures ∙ c.if-is_outside.false) (sym c.in_ok-start.ensures) in
    record {
      n_in_bounds = (omega arith, r.1, r.2);
      out_value = c.fill.ensures.after (λ _ e. e) ∙ ap (λ (k : ℕ). replicate k 0) (sym c.fill.auto.self);
    }

pub returns-in_err-start : goal.returns-in_err-start
returns-in_err-start c =
    let a = c.args in
    let i = a.index in
    let r = searched_broken (wide a.ring.now) a.n i.least i.height i.stripes.now i.list.now a.y _ (sym c.is_outside.ensures ∙ c.if-is_outside.false) (sym c.in_err-start.ensures) in
    ap (λ (r : Reading). poured r a.out.now) r.2
    ∙ poured_hurt [] (damaged_at r.0) a.out.now r.0 (omega arith) refl
    ∙ ap₂ (λ (f : Listed) (o : List ℕ). (f, o)) (sym (refused c.from_residual.result c.from_residual.ensures.1 ∙ ap Err r.1)) (sym (c.fill.ensures.after (λ _ e. e)))

pub returns : goal.returns
returns c =
    let a = c.args in
    let i = a.index in
    let r = searched_run (wide a.ring.now) a.n i.least i.height i.stripes.now i.list.now a.y _ _ (sym c.is_outside.ensures ∙ c.if-is_outside.false) (sym c.in_ok-start.ensures) in
    ap (λ (r : Reading). poured r a.out.now) r.0
    ∙ poured_room _ a.out.now _ (sym c.fill.auto.self)
    ∙ c.list_run.ensures
