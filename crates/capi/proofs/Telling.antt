-- Putting in what a call has told, and that a refusal's number is small.
use Prim.Native.Nat.{ℕ, ◌≤◌}
use mathlib.Core.Path.{◌≡◌, ap, ap₂, ◌∙◌}
use mathlib.Core.List.{List}
use lib.IntN.{ℤ}
use native.Mathlib.Omega.{arith}
use Rattle.answers.specs.declared.Refusal.{Refusal}
use Rattle.answers.specs.declared.Refusal.TheVariants.{TooFew, TooMany, SizesDiffer, NotClosed, BadScale, BadHeight, NoRoom, Damaged, Loose}
use Rattle.answers.specs.Refusals.{number_of}
use Rattle.wkb_shape.specs.declared.WkbRefusal.{WkbRefusal}
use Rattle.wkb_shape.specs.declared.WkbRefusal.TheVariants.{Ends, Unknown, Unstored, Plain}
use Rattle.wkb_shape.specs.Refusals.{wkb_number}
use Rattle.wkb_read.specs.Read.{ReadWkb, Outcome}
use Rattle.capi.specs.Told.{Told, told}
use Rattle.capi.specs.Wkb.{read_told, numbers_told, wkb_told}

pub number_small : (why : Refusal) → number_of why ≤ 15
number_small (TooFew ring) = omega arith
number_small (TooMany ring) = omega arith
number_small SizesDiffer = omega arith
number_small (NotClosed ring) = omega arith
number_small BadScale = omega arith
number_small BadHeight = omega arith
number_small NoRoom = omega arith
number_small (Damaged at) = omega arith
number_small (Loose at) = omega arith

module _ {A B : Type 0} where
  -- an answer with its room, told by a call that tells the answer alone
  pub telling : (f : A → Told) {x : A × B} {answer : A} {room : B} {said : Told} → x ≡ (answer, room) → f answer ≡ said → told f x ≡ (said, room)
  telling f {room = room} e h = ap (told f) e ∙ ap (λ (w : Told). (w, room)) h

pub wkb_number_small : (why : WkbRefusal) → wkb_number why ≤ 15
wkb_number_small (Ends at) = omega arith
wkb_number_small (Unknown at) = omega arith
wkb_number_small (Unstored ring) = omega arith
wkb_number_small (Plain why) = omega (arith, number_small why)

-- what reading well-known binary says, told by two calls
pub telling_wkb : {x : Outcome} {answer : ReadWkb} {sizes : List ℕ} {coords : List ℤ} {said : Told} {numbers : ℕ} → x ≡ (answer, sizes, coords)
    → read_told answer ≡ said → numbers_told answer ≡ numbers → wkb_told x ≡ (said, numbers, sizes, coords)
telling_wkb {sizes = sizes} {coords = coords} e h g = ap wkb_told e ∙ ap₂ (λ (w : Told) (n : ℕ). (w, n, sizes, coords)) h g
