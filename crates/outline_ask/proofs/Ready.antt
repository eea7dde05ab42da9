-- What the checks leave for the tests of the rings. Assumes nothing.
use Rattle.std.specs.Prelude.{Ok, Err}
use mathlib.Core.Path.{◌≡◌, ap, ◌∙◌}
use mathlib.Core.Bool.{Bool}
use mathlib.Core.List.{List}
use Prim.Native.Nat.{ℕ, ◌*◌, ◌/◌}
use native.Mathlib.Omega.{arith}
use lib.ListN.{length}
use lib.IntN.{ℤ}
use lib.Dec.{leb}
use Rattle.answers.specs.declared.Refusal.{Refusal}
use Rattle.answers.specs.Answers.{Answer}
use Rattle.boxes.specs.declared.Point.{Point}
use Rattle.rings.proofs.Whole.{leb_same}
use Rattle.outline_check.specs.declared.Outline.{Outline}
use Rattle.outline_check.specs.Rules.{outline_with}
use Rattle.outline_check.specs.Inner.Counted.{Counted}
use Rattle.outline_check.proofs.Sound.{sound_outline}
use Rattle.outline_ring.specs.RingIndex.{Indexes}
use Rattle.outline_ask.specs.declared.Query.{Query}
use Rattle.outline_ask.specs.Query.{scaled_query}
use Rattle.outline_ask.specs.Inside.{record_fits, asked_at, inside_of}

-- the record's length, as code compares it
pub fits_is : (sizes : List ℕ) (boxes : List ℤ) → leb (length sizes) (length boxes / 4) ≡ record_fits sizes boxes
fits_is sizes boxes = leb_same (length sizes) (length boxes / 4) (4 * length sizes) (length boxes) (λ h. omega arith) (λ h. omega arith)

pub counted : (fits : Bool) (outline : Outline) (sizes : List ℕ) (coords : List ℤ) → outline_with fits outline.scale sizes coords ≡ Ok tt → Counted sizes coords
counted fits outline sizes coords e = (sound_outline fits outline.scale sizes coords e).1.shaped.counted

-- ---- the ways through the question
module _ (outline : Outline) (sizes : List ℕ) (coords boxes : List ℤ) (x : Indexes) (p : Point) (edge : Bool) (fits : Bool) (is : fits ≡ record_fits sizes boxes) where
  pub inside_faulty : (why : Refusal) → outline_with fits outline.scale sizes coords ≡ Err why
      → Err why ≡ inside_of outline sizes coords boxes x p edge
  unfolding inside_of
  inside_faulty why e = rw (← is, e)

  pub inside_asked : (q : Query) (r : Answer) → outline_with fits outline.scale sizes coords ≡ Ok tt → q ≡ scaled_query outline p
      → r ≡ asked_at sizes coords boxes x edge q → r ≡ inside_of outline sizes coords boxes x p edge
  unfolding inside_of
  inside_asked q r e s a = rw (← is, e) (a ∙ ap (asked_at sizes coords boxes x edge) s)
