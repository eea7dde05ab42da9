-- What a listing answers, by how what was found meets the room. Assumes nothing.
use Rattle.std.specs.Prelude.{Ok, Err}
use mathlib.Core.Path.{◌≡◌, ◌∙◌}
use mathlib.Core.Bool.{true, false, cond}
use mathlib.Core.List.{List, []}
use Prim.Native.Nat.{ℕ, ◌≤◌, ◌<◌}
use lib.ListN.{length}
use lib.Dec.{leb}
use lib.Ieee.{Float}
use lib.Ieee.Scale.{finite}
use borrow.Author.Tests.{le-leb, lt-leb}
use Rattle.answers.specs.declared.Refusal.{Refusal}
use Rattle.answers.specs.declared.Refusal.TheVariants.{NoRoom, Damaged}
use Rattle.room.specs.Room.{pad}
use Rattle.rings.specs.Checks.{Checked}
use Rattle.rings.specs.Ring.{side_at, segments, holds_height}
use Rattle.stripes_find.specs.Search.{Reading, Ending, complete, damaged_at, outside, read_stripe, searched_by, searched}
use Rattle.stripes_find.specs.Inner.Part.{part_at, run_read}
use Rattle.stripes_find.proofs.Parts.{read_broken, read_run}
use Rattle.stripes_find.specs.Listing.{refused, ended, poured, stripes_listed_by}

module _ (found : List ℕ) (ending : Ending) (out : List ℕ) where
  pub poured_whole : length found ≤ length out → ending ≡ complete
      → poured (record { found = found; ending = ending }) out ≡ (Ok (length found), pad (length out) found)
  unfolding poured
  poured_whole h e = rw (le-leb (length found) (length out) h, e)

  pub poured_hurt : (place : ℕ) → length found ≤ length out → ending ≡ damaged_at place
      → poured (record { found = found; ending = ending }) out ≡ refused (Damaged place) out
  unfolding poured
  poured_hurt place h e = rw (le-leb (length found) (length out) h, e)

  pub poured_short : length out < length found → poured (record { found = found; ending = ending }) out ≡ refused NoRoom out
  unfolding poured
  poured_short h = rw (lt-leb (length found) (length out) h)

-- only the room's size counts
pub poured_room : (r : Reading) (o o' : List ℕ) → length o ≡ length o' → poured r o ≡ poured r o'
unfolding poured
poured_room r o o' e = go r.ending
  where
    go : (e : Ending) → cond (leb (length r.found) (length o)) (ended r.found e o) (refused NoRoom o) ≡ cond (leb (length r.found) (length o')) (ended r.found e o') (refused NoRoom o')
    go complete = rw e
    go (damaged_at p) = rw e

-- ---- the ways through a search
module _ (ring : ℕ → Float) (n : ℕ) (least height : Float) (stripes list : List ℕ) (y : Float) where
  pub searched_outside : outside y least height ≡ true → searched ring n least height stripes list y ≡ record { found = []; ending = complete }
  unfolding searched_by
  searched_outside e = rw e

  searched_within : outside y least height ≡ false
      → searched ring n least height stripes list y ≡ read_stripe n (λ i. holds_height (side_at ring i) y) least height stripes list y
  unfolding searched_by
  searched_within e = rw e

  -- at damage before the list is read, and through a part of it
  pub searched_broken : (why : Refusal) → outside y least height ≡ false → part_at least height stripes (length list) y ≡ Err why
      → (p : ℕ) × (why ≡ Damaged p) × (searched ring n least height stripes list y ≡ record { found = []; ending = damaged_at p })
  searched_broken why o e =
      let r = read_broken n (λ i. holds_height (side_at ring i) y) least height stripes list y why e in
      (r.0, r.1, searched_within o ∙ r.2)

  pub searched_run : (start past : ℕ) → outside y least height ≡ false → part_at least height stripes (length list) y ≡ Ok (start, past)
      → (searched ring n least height stripes list y ≡ run_read ring n list start past y) × (start ≤ past) × (past ≤ length list)
  searched_run start past o e =
      let r = read_run n (λ i. holds_height (side_at ring i) y) least height stripes list y start past e in
      (searched_within o ∙ r.0, r.1, r.2)

-- of a ring that passed its checks, at a finite height
pub listed_sound : (checked : Checked) (ring : ℕ → Float) (points : ℕ) (least height : Float) (stripes list : List ℕ) (y : Float) (out : List ℕ)
    → checked ≡ Ok tt → finite y ≡ true
    → stripes_listed_by checked ring points least height stripes list y out ≡ poured (searched ring (segments points) least height stripes list y) out
unfolding stripes_listed_by
listed_sound checked ring points least height stripes list y out e f = rw (e, f)
