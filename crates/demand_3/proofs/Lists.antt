-- The numbers at which a test holds rise, and what the three listing calls do with their numbers is one and the same. Assumes nothing.
use Rattle.std.specs.Prelude.{Ok, Err}
use mathlib.Core.Path.{◌≡◌, refl}
use mathlib.Core.Bool.{Bool, true, false, cond}
use mathlib.Core.List.{List, ◌∷◌}
use Prim.Native.Nat.{ℕ, zero, suc, ◌+◌, ◌≤◌, ◌<◌}
use native.Mathlib.Omega.{arith}
use lib.Dec.{leb}
use lib.ListN.{length, get_or, replicate}
use lib.Ieee.{Float}
use Rattle.answers.specs.declared.Refusal.TheVariants.{NoRoom}
use Rattle.room.specs.Numbers.{cons_if, keep, up_to}
use Rattle.room.specs.Room.{pad, room_of}
use Rattle.rings.specs.Ring.{meeting}
use Rattle.rings.specs.Listing.{Outcome, listed_in}
use Rattle.stripes_find.specs.Search.{complete}
use Rattle.stripes_find.specs.Listing.{poured}
use Rattle.tree.specs.Search.{ends}
use Rattle.tree_find.specs.Find.{answered}
use Rattle.demand_3.specs.Words.{Rises, listing}

-- ---- rising numbers
rises_cons : (x : ℕ) (xs : List ℕ) → (0 < length xs → x < get_or xs 0 0) → Rises xs → Rises (x ∷ xs)
rises_cons x xs first rest zero h = first (omega arith)
rises_cons x xs first rest (suc j) h = rest j (omega arith)

keep_first : (t : ℕ → Bool) (n i : ℕ) → 0 < length (keep t n i) → i ≤ get_or (keep t n i) 0 0
unfolding keep
keep_first t zero i h = absurd (omega arith)
keep_first t (suc n) i h = go (t i) (keep_first t n (i + 1)) h
  where
    go : (b : Bool) → (0 < length (keep t n (i + 1)) → i + 1 ≤ get_or (keep t n (i + 1)) 0 0)
        → 0 < length (cons_if b i (keep t n (i + 1))) → i ≤ get_or (cons_if b i (keep t n (i + 1))) 0 0
    go true later l = omega arith
    go false later l = omega (arith, later l)

keep_rises : (t : ℕ → Bool) (n i : ℕ) → Rises (keep t n i)
unfolding keep
keep_rises t zero i = λ j h. absurd (omega arith)
keep_rises t (suc n) i = go (t i) (keep_rises t n (i + 1))
  where
    go : (b : Bool) → Rises (keep t n (i + 1)) → Rises (cons_if b i (keep t n (i + 1)))
    go true later = rises_cons i (keep t n (i + 1)) (λ l. omega (arith, keep_first t n (i + 1) l)) later
    go false later = later

pub meeting_rises : (ring : ℕ → Float) (points : ℕ) (y : Float) → Rises (meeting ring points y)
unfolding meeting up_to
meeting_rises ring points y = keep_rises _ _ _

-- ---- listing
module _ (numbers room : List ℕ) where
  pub by_scan_lem : listed_in numbers room ≡ listing Ok (Err NoRoom) numbers room
  unfolding listed_in room_of
  by_scan_lem = go (leb (length numbers) (length room))
    where
      go : (b : Bool)
          → ◌≡◌ {A = Outcome} (cond b (Ok (length numbers)) (Err NoRoom), cond b (pad (length room) numbers) (replicate (length room) 0))
          (cond b (Ok (length numbers), pad (length room) numbers) (Err NoRoom, replicate (length room) 0))
      go true = refl
      go false = refl

  pub by_stripes_lem : poured (record { found = numbers; ending = complete }) room ≡ listing Ok (Err NoRoom) numbers room
  unfolding poured
  by_stripes_lem = refl

  pub by_tree_lem : (p : ℕ) → answered (length room) (numbers, ends p) ≡ listing Ok (Err NoRoom) numbers room
  unfolding answered
  by_tree_lem p = refl
