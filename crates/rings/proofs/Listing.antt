-- A list that fits the room, and one that does not; and the loop that lists the numbers below n at which a test holds. Assumes nothing.
use Rattle.std.specs.Prelude.{Ok, Err}
use Prim.Native.Nat.{ℕ, ◌+◌, ◌≤◌, ◌<◌}
use mathlib.Core.Path.{◌≡◌, sym, ap, ap₂, ◌∙◌}
use mathlib.Core.Bool.{Bool, true, false}
use native.Mathlib.Omega.{arith}
use mathlib.Core.List.{List}
use lib.ListN.{length, length-set, replicate, set}
use borrow.Author.Tests.{le-leb, lt-leb}
use Rattle.answers.specs.declared.Refusal.TheVariants.{NoRoom}
use Rattle.room.specs.Numbers.{up_to}
use Rattle.room.specs.Room.{write, pad}
use Rattle.room.proofs.UpTo.{up_to_done, up_to_yes, up_to_no}
use Rattle.room.proofs.Fill.{room_fits, room_short, write_pad}
use Rattle.rings.specs.Listing.{listed_in}

module _ (xs out : List ℕ) where
  pub listed_fits : length xs ≤ length out → listed_in xs out ≡ (Ok (length xs), pad (length out) xs)
  unfolding listed_in
  listed_fits h = rw (le-leb (length xs) (length out) h, room_fits (length out) xs h)

  pub listed_short : length out < length xs → listed_in xs out ≡ (Err NoRoom, replicate (length out) 0)
  unfolding listed_in
  listed_short h = rw (lt-leb (length xs) (length out) h, room_short (length out) xs h)

module _ (t : ℕ → Bool) (n : ℕ) (out₀ : List ℕ) where
  -- what is still to be listed, written from k on, makes the room what the whole list written into zeros makes it
  abbrev pub Filling : List ℕ → ℕ → ℕ → Type 0
  Filling out k i =
      let rest = up_to t n i in let all = up_to t n 0 in
      (write out k rest ≡ write out₀ 0 all) × (k + length rest ≡ length all) × (length out ≡ length out₀) × (i ≤ n) × (k ≤ length out₀)

  module _ (out : List ℕ) (k i : ℕ) (inv : Filling out k i) where
    pub filling_yes : i < n → t i ≡ true → k < length out → Filling (set out k i) (k + 1) (i + 1)
    unfolding write
    filling_yes h y w =
        let e = up_to_yes t n i h y in
        (sym (ap (λ (vs : List ℕ). write out k vs) e) ∙ inv.0, omega (arith, ap length e, inv.1), simp length-set inv.2, omega arith, omega (arith, inv.2))

    pub filling_no : i < n → t i ≡ false → Filling out k (i + 1)
    filling_no h y =
        let e = up_to_no t n i h y in
        (sym (ap (λ (vs : List ℕ). write out k vs) e) ∙ inv.0, omega (arith, ap length e, inv.1), inv.2, omega arith, inv.4)

    -- out₀ was made of the lent room
    pub filling_short : (lent : List ℕ) → out₀ ≡ replicate (length lent) 0 → length out₀ ≡ length lent → i < n → t i ≡ true → length out ≤ k
        → listed_in (up_to t n 0) lent ≡ (Err NoRoom, replicate (length out) 0)
    filling_short lent z same h y w =
        let e = up_to_yes t n i h y in
        listed_short (up_to t n 0) lent (omega (arith, ap length e, same, inv.1, inv.2))
        ∙ ap (λ (m : ℕ). (Err NoRoom, replicate m 0)) (sym (inv.2 ∙ same))

    pub filling_done : (lent : List ℕ) → out₀ ≡ replicate (length lent) 0 → length out₀ ≡ length lent → n ≤ i
        → listed_in (up_to t n 0) lent ≡ (Ok k, out)
    unfolding write
    filling_done lent z same h =
        let all = up_to t n 0 in
        let e = up_to_done t n i h in
        let count : length all ≡ k = omega (arith, ap length e, inv.1) in
        let fits : length all ≤ length lent = omega (arith, same, inv.4) in
        let room : pad (length lent) all ≡ out = sym (sym (ap (λ (vs : List ℕ). write out k vs) e) ∙ inv.0 ∙ ap (λ (o : List ℕ). write o 0 all) z ∙ write_pad (length lent) all fits) in
        listed_fits all lent fits ∙ ap₂ (λ (m : ℕ) (o : List ℕ). (Ok m, o)) count room
