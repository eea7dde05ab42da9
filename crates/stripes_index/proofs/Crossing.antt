-- Which stripes a segment crosses, as an order of numbers. Assumes nothing.
use Prim.Native.Nat.{ℕ, ◌≤◌}
use mathlib.Core.Path.{◌≡◌, refl, sym}
use mathlib.Core.Bool.{Bool, true, false, ◌&&◌, true≢false}
use lib.Dec.{leb}
use lib.Ieee.{Float}
use borrow.Author.Tests.{leb-true, le-leb}
use Rattle.stripes_index.specs.Index.{first_stripe, last_stripe, crosses}

both : (a b : Bool) → (a && b) ≡ true → (a ≡ true) × (b ≡ true)
both true true h = (refl, refl)
both true false h = absurd (true≢false (sym h))
both false b h = absurd (true≢false (sym h))

module _ (ring : ℕ → Float) (least height : Float) (m t i : ℕ) where
  pub crosses_from : crosses ring least height m t i ≡ true → first_stripe ring least height m i ≤ t
  crosses_from h = leb-true (first_stripe ring least height m i) t (both (leb (first_stripe ring least height m i) t) (leb t (last_stripe ring least height m i)) h).0

  pub crosses_to : crosses ring least height m t i ≡ true → t ≤ last_stripe ring least height m i
  crosses_to h = leb-true t (last_stripe ring least height m i) (both (leb (first_stripe ring least height m i) t) (leb t (last_stripe ring least height m i)) h).1

  pub crosses_at : first_stripe ring least height m i ≤ t → t ≤ last_stripe ring least height m i → crosses ring least height m t i ≡ true
  crosses_at a b = rw (le-leb (first_stripe ring least height m i) t a, le-leb t (last_stripe ring least height m i) b)
