-- The loop's invariant: the two halves stand for the sum of the products so far, and neither has more than 2^32 for each.
use Prim.Native.Nat.{ℕ, ◌+◌, ◌*◌, ◌/◌, ◌%◌}
use mathlib.Core.Path.{◌≡◌, refl, ap, ap₂, ◌∙◌}
use native.Mathlib.Omega.{arith}
use native.Mathlib.Numerals.{add-one}
use lib.IntN.{ℤ, pos, ◌+ℤ◌}
use Rattle.turn.specs.Turn.{sum_to}
use Rattle.turn.proofs.sum.Goals as goal

next : (f : ℕ → ℤ) (i : ℕ) → sum_to f i +ℤ f i ≡ sum_to f (i + 1)
unfolding sum_to
next f i = rw add-one

pub loop-i-init : goal.loop-i-init
unfolding sum_to
loop-i-init g c = record { total = λ t h. refl; high = omega arith; low = omega arith }

pub loop-i-preserved : goal.loop-i-preserved
unfolding sum_to
loop-i-preserved g c =
    let l = c.loop-i in let p = c.term-p.result in
    let e : (l.high + p / 4294967296) * 4294967296 + (l.low + p % 4294967296) ≡ l.high * 4294967296 + l.low + p = omega arith in
    record {
      total = λ t h. ap pos e ∙ ap₂ ◌+ℤ◌ (l.invariant.total t h) (h _ _ c.term-p.ensures ∙ ap t c.segment_at.ensures) ∙ next _ l.i;
      high = omega (arith, c.term-p.type_inv);
      low = omega arith;
    }

pub returns-clause-total : goal.returns-clause-total
returns-clause-total g c = λ t h.
    let l = c.loop-i in
    let last : l.i ≡ c.args.n = omega arith in
    let e : (l.high + l.low / 4294967296) * 4294967296 + l.low % 4294967296 ≡ l.high * 4294967296 + l.low = omega arith in
    rw (← last) (ap pos e ∙ l.invariant.total t h)
