-- `varint::append_uvarint` meets its contract.
use mathlib.Core.Path.{sym, ap, ◌∙◌}
use mathlib.Core.List.{List}
use Prim.Native.Nat.{ℕ}
use Rattle.std.specs.Prelude.{Ok, Err}
use Rattle.answers.specs.declared.Refusal.TheVariants.{NoRoom}
use Rattle.varint.proofs.Writing.{append_past, append_not}
use Rattle.varint.proofs.append_uvarint.Goals as goal

pub returns-in_default : goal.returns-in_default
returns-in_default c =
    append_not _ _ _ _ c.in_default.ensures
    ∙ sym (ap (λ (o : List ℕ). (Err NoRoom, o)) (c.fill.ensures.after (λ _ e. e)))

pub returns : goal.returns
returns c =
    append_past _ _ _ _ _ c.in-Some.ensures
    ∙ sym (ap (λ (o : List ℕ). (Ok c.in-Some.next, o)) c.fill_from.ensures)
