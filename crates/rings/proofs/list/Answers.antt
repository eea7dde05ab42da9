-- The loop's invariant is `Filling` of Listing.antt.
use Prim.Native.Nat.{ℕ}
use mathlib.Core.Path.{refl, sym, ap, ◌∙◌}
use mathlib.Core.List.{List}
use native.Mathlib.Omega.{arith}
use Rattle.std.specs.Prelude.{Err}
use Rattle.answers.specs.declared.Refusal.TheVariants.{NoRoom}
use Rattle.rings.proofs.Listing.{filling_yes, filling_no, filling_short, filling_done}
use Rattle.rings.proofs.list.Goals as goal

pub loop-i-init : goal.loop-i-init
loop-i-init c = (refl, omega arith, refl, omega arith, omega arith)

pub loop-i-preserved-then-not-holds_height : goal.loop-i-preserved-then-not-holds_height
loop-i-preserved-then-not-holds_height c =
    let l = c.loop-i in
    filling_no _ _ _ l.out l.k l.i l.invariant c.loop-i-test.true (sym c.holds_height.ensures ∙ c.if-not-holds_height.true)

pub returns-then-out-k : goal.returns-then-out-k
returns-then-out-k c =
    let l = c.loop-i in
    filling_short _ _ _ l.out l.k l.i l.invariant _ (c.fill.ensures.after (λ _ e. e)) c.fill.auto.self c.loop-i-test.true
    (sym c.holds_height.ensures ∙ c.if-not-holds_height.false) c.if-out-k.true
    ∙ ap (λ (o : List ℕ). (Err NoRoom, o)) (sym (c.fill-then-out-k.ensures.after (λ _ e. e)))

pub loop-i-preserved : goal.loop-i-preserved
loop-i-preserved c =
    let l = c.loop-i in
    filling_yes _ _ _ l.out l.k l.i l.invariant c.loop-i-test.true (sym c.holds_height.ensures ∙ c.if-not-holds_height.false) (omega arith)

pub returns : goal.returns
returns c =
    let l = c.loop-i in
    filling_done _ _ _ l.out l.k l.i l.invariant _ (c.fill.ensures.after (λ _ e. e)) c.fill.auto.self (omega arith)
