-- Refusal 6 is withdrawn and its number is given to nothing else: whatever refuses, the number is not 6. Assumes nothing.
use mathlib.Core.Path.{◌≡◌, sym, ◌∙◌}
use native.Mathlib.Omega.{arith}
use contract.Lifetimes.{Lfts}
use Rattle.answers.specs.declared.Refusal.{Refusal}
use Rattle.answers.specs.declared.Refusal.TheVariants.{TooFew, TooMany, SizesDiffer, NotClosed, BadScale, BadHeight, NoRoom, Damaged, Loose}
use Rattle.answers.specs.Refusals.{number_of}
use Rattle.answers.proofs.Refusal.number.Reads as number

-- `Refusal` is the type of every refusal that a call of the library gives, exported or not, so this speaks of all of them; a layer above that has refusals of
-- its own brings the same law for them
pub never_six : (why : Refusal) → number_of why ≡ 6 → ⊥
never_six (TooFew ring) e = omega arith
never_six (TooMany ring) e = omega arith
never_six SizesDiffer e = omega arith
never_six (NotClosed ring) e = omega arith
never_six BadScale e = omega arith
never_six BadHeight e = omega arith
never_six NoRoom e = omega arith
never_six (Damaged at) e = omega arith
never_six (Loose at) e = omega arith

-- and so does the call that tells the number, by its own promise
pub number_never_six : (κs : Lfts 0) (a : _) (z : _) (e : _) → number.Post κs a z e → z ≡ 6 → ⊥
number_never_six κs a z e p six = never_six a.0 (sym p ∙ six)
