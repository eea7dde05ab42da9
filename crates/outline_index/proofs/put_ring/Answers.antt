-- `outline_index::put_ring` meets its contract. Assumes nothing.
use Rattle.std.proofs.Common.{◌≡◌, ℕ, [], ◌∷◌, Bool, true, false, arith, refl, ap, ◌∙◌}
use Rattle.std.proofs.lemmas.Slice.{put_mid-paste}
use mir.Val.{bool_byte}
use Rattle.room.specs.Room.{write}
use Rattle.room.specs.Numbers.{bit}
use Rattle.outline_index.specs.Parts.{says_under}
use Rattle.outline_index.specs.Inner.Step.{row_numbers}
use Rattle.outline_index.proofs.put_ring.Goals as goal

bit_is : (b : Bool) → bool_byte b ≡ bit b
bit_is true = refl
bit_is false = refl

pub returns-clause-table_after : goal.returns-clause-table_after
returns-clause-table_after c =
    let a = c.args in
    let g = a.gain in
    let under : c.from.result ≡ bit (says_under a.options a.n) = c.from.ensures ∙ bit_is c.says_under.result ∙ ap bit c.says_under.ensures in
    put_mid-paste _ _ a.table.now _ (row_numbers a.n a.options a.at g) 10
    (c.copy_from_slice.ensures.after
    ∙ ap
    (λ (x : ℕ). a.n ∷ x ∷ g.kinds ∷ a.at.stripes ∷ g.stripes ∷ a.at.list ∷ g.entries ∷ g.fullest ∷ a.at.bytes ∷ g.bytes ∷ [])
    under)
    (omega arith) refl

pub returns-clause-spans_after : goal.returns-clause-spans_after
unfolding write
returns-clause-spans_after c = refl
