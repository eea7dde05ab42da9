-- Laws of the checks on a ring. Assumes nothing.
use Rattle.std.specs.Prelude.{Ok}
use Prim.Native.Nat.{ℕ, ◌*◌, ◌≤◌}
use mathlib.Core.Path.{◌≡◌, refl}
use mathlib.Core.List.{List}
use mathlib.Core.Bool.{Bool, true, false, not, ◌&&◌, false≢true}
use lib.ListN.{length}
use lib.IntN.{ℤ}
use lib.Dec.{ltb, eqb}
use borrow.Author.Tests.{ltb-false, eqb-true, not-true}
use Rattle.answers.specs.declared.Refusal.{Refusal}
use Rattle.answers.specs.declared.Refusal.TheVariants.{TooFew, TooMany, SizesDiffer, NotClosed}
use Rattle.rings.specs.Checks.{Checked}
use Rattle.rings.specs.Checks.{closed, holding, ring_checked}

-- the two sides of a test that holds
pub both : (a b : Bool) → (a && b) ≡ true → (a ≡ true) × (b ≡ true)
both true true e = (refl, refl)
both true false e = absurd (false≢true e)
both false true e = absurd (false≢true e)
both false false e = absurd (false≢true e)

-- what a ring that passes rules 1 to 4 is
pub record Accepted (ring : List ℤ) (points : ℕ) : Type 0 where
  pub enough : 2 ≤ points
  pub few : points ≤ 4097
  pub sizes : points * 2 ≡ length ring
  pub shut : closed ring points ≡ true

-- a rule before others, where all is sound
held : (t : Bool) (why : Refusal) (later : Checked) → holding t why later ≡ Ok tt → (t ≡ true) × (later ≡ Ok tt)
held true why later e = (refl, e)
held false why later e = (cc, cc)

pub sound_ring : (ring : List ℤ) (points : ℕ) → ring_checked ring points ≡ Ok tt → Accepted ring points
unfolding ring_checked
sound_ring ring points e =
    let one = held (not (ltb points 2)) (TooFew 0) _ e in
    let two = held (not (ltb 4097 points)) (TooMany 0) _ one.1 in
    let three = held (eqb (points * 2) (length ring)) SizesDiffer _ two.1 in
    let four = held (closed ring points) (NotClosed 0) _ three.1 in
    record {
      enough = ltb-false points 2 (not-true _ one.0);
      few = ltb-false 4097 points (not-true _ two.0);
      sizes = eqb-true (points * 2) (length ring) three.0;
      shut = four.0;
    }
