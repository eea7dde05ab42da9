use Rattle.std.proofs.Common.{Ok, Err, rules}
use native.Mathlib.Omega.{arith}
use Prim.Native.Nat.{ℕ, ◌*◌}
use mathlib.Core.Path.{◌≡◌, sym, ◌∙◌, ap}
use mathlib.Core.List.{List}
use mathlib.Core.Bool.{Bool, ◌&&◌}
use lib.ListN.{length}
use lib.IntN.{ℤ}
use lib.Dec.{eqb}
use Rattle.answers.specs.declared.Refusal.TheVariants.{SizesDiffer, NotClosed}
use Rattle.rings.specs.Checks.{Checked, holding, then_checked}
use Rattle.rings.proofs.Checks.{both}
use Rattle.outline_check.specs.Rules.{for_each, shut, add_up, shape_with}
use Rattle.outline_check.specs.Inner.Counted.{counts_checked}
use Rattle.outline_check.proofs.Sound.{counts_then, counts_points, sound_counts}
use Rattle.outline_check.proofs.check_shape_with.Goals as goal

-- rule 4, and rules 3 and 4
abbrev four : List ℕ → List ℤ → Checked
four sizes coords = for_each (shut sizes coords) NotClosed (length sizes) (Ok tt)

abbrev rest : Bool → List ℕ → List ℤ → Checked
rest fits sizes coords = holding (fits && add_up sizes coords) SizesDiffer (four sizes coords)

step : (fits : Bool) (sizes : List ℕ) (coords : List ℤ) (first : Checked) → counts_checked sizes ≡ first
    → shape_with fits sizes coords ≡ then_checked first (rest fits sizes coords)
step fits sizes coords first e = counts_then fits sizes coords ∙ ap (λ (x : Checked). then_checked x (rest fits sizes coords)) e

step_on : (fits : Bool) (sizes : List ℕ) (coords : List ℤ) (t : Bool) → counts_checked sizes ≡ Ok tt → (fits && add_up sizes coords) ≡ t
    → shape_with fits sizes coords ≡ holding t SizesDiffer (four sizes coords)
step_on fits sizes coords t e h = step fits sizes coords (Ok tt) e ∙ ap (λ (t : Bool). holding t SizesDiffer (four sizes coords)) h

pub returns-in_err-check_counts : goal.returns-in_err-check_counts
returns-in_err-check_counts c =
    let a = c.args in
    let told : c.from_residual.result ≡ Err c.in_err-check_counts.field-0.0 = search rules in
    told ∙ sym (step a.fits a.sizes.now a.coords.now _ (sym c.check_counts.ensures ∙ c.in_err-check_counts.was))

pub points_of-requires : goal.points_of-requires
points_of-requires c =
    (counts_points c.args.sizes.now (sym c.check_counts.ensures ∙ c.in_ok-check_counts.was)).0

pub overflow_mul-points_of : goal.overflow_mul-points_of
overflow_mul-points_of c =
    let small = (counts_points c.args.sizes.now (sym c.check_counts.ensures ∙ c.in_ok-check_counts.was)).1 in
    omega (arith, c.points_of.ensures)

pub returns-then-not-fits-points_of : goal.returns-then-not-fits-points_of
returns-then-not-fits-points_of c =
    let a = c.args in
    let told = sym c.check_counts.ensures ∙ c.in_ok-check_counts.was in
    let e = ap (λ (n : ℕ). a.fits && eqb (2 * n) (length a.coords.now)) (sym c.points_of.ensures) ∙ c.if-not-fits-points_of.true in
    sym (step_on a.fits a.sizes.now a.coords.now _ told e)

pub invariant_of-rings : goal.invariant_of-rings
invariant_of-rings c =
    let a = c.args in
    let told = sym c.check_counts.ensures ∙ c.in_ok-check_counts.was in
    let e = ap (λ (n : ℕ). a.fits && eqb (2 * n) (length a.coords.now)) (sym c.points_of.ensures) ∙ c.if-not-fits-points_of.false in
    record { counted = sound_counts a.sizes.now a.coords.now told (both a.fits (add_up a.sizes.now a.coords.now) e).1 }

pub returns : goal.returns
returns c =
    let a = c.args in
    let told = sym c.check_counts.ensures ∙ c.in_ok-check_counts.was in
    let e = ap (λ (n : ℕ). a.fits && eqb (2 * n) (length a.coords.now)) (sym c.points_of.ensures) ∙ c.if-not-fits-points_of.false in
    c.check_closed.ensures ∙ sym (step_on a.fits a.sizes.now a.coords.now _ told e)
