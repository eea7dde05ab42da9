use native.Mathlib.Omega.{arith}
use Prim.Native.Nat.{ℕ, ◌+◌, ◌*◌}
use mathlib.Core.Path.{refl, sym, ◌∙◌, ap}
use mathlib.Core.List.{List}
use lib.IntN.{ℤ}
use Rattle.rings.specs.Checks.{closed}
use Rattle.outline_check.specs.Outline.{size_at}
use Rattle.outline_check.proofs.Rules.{walking, walk_on, walk_fault, walk_done}
use Rattle.outline_check.proofs.Starts.{start_none, start_more, part_within, part_is}
use Rattle.outline_check.proofs.Rings.check_closed.Goals as goal

pub loop-k-init : goal.loop-k-init
loop-k-init c = (ap (λ (n : ℕ). 2 * n) (sym (start_none _)), walking _ _ _)

pub overflow_add-end : goal.overflow_add-end
overflow_add-end c = omega (arith, part_within c.args.self.counted c.loop-k.k c.loop-k-test.true)

pub offset_bounds-self-start : goal.offset_bounds-self-start
offset_bounds-self-start c = omega (arith, part_within c.args.self.counted c.loop-k.k c.loop-k-test.true)

pub slice_bounds-is_closed-end : goal.slice_bounds-is_closed-end
slice_bounds-is_closed-end c = omega (arith, part_within c.args.self.counted c.loop-k.k c.loop-k-test.true)

pub returns-then-not-is_closed : goal.returns-then-not-is_closed
returns-then-not-is_closed c =
    let l = c.loop-k in
    let a = c.args in
    let e = part_is a.self.sizes.now a.self.coords.now l.k l.start (l.start + 2 * size_at a.self.sizes.now l.k) l.invariant.0 refl in
    let ok = ap (λ (ring : List ℤ). closed ring (size_at a.self.sizes.now l.k)) (sym e) ∙ sym c.is_closed.ensures ∙ c.if-not-is_closed.true in
    walk_fault _ _ _ l.k l.invariant.1 c.loop-k-test.true ok

pub loop-k-preserved : goal.loop-k-preserved
loop-k-preserved c =
    let l = c.loop-k in
    let a = c.args in
    let e = part_is a.self.sizes.now a.self.coords.now l.k l.start (l.start + 2 * size_at a.self.sizes.now l.k) l.invariant.0 refl in
    let ok = ap (λ (ring : List ℤ). closed ring (size_at a.self.sizes.now l.k)) (sym e) ∙ sym c.is_closed.ensures ∙ c.if-not-is_closed.false in
    (omega (arith, l.invariant.0, start_more a.self.sizes.now l.k), walk_on _ _ _ l.k l.invariant.1 c.loop-k-test.true ok)

pub returns : goal.returns
returns c = walk_done _ _ _ c.loop-k.k c.loop-k.invariant.1 c.loop-k-test.false
