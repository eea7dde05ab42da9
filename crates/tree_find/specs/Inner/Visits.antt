-- What the two visitors do with a segment: one lists it in lent room, one tests it against a point.
use Rattle.std.specs.Prelude.{ℕ, ◌+◌, true, not, cond, ltb, length, set, Float, Ok, Err}
use Rattle.answers.specs.declared.Refusal.TheVariants.{NoRoom}
use Rattle.rays.specs.declared.RaycastResult.{RaycastResult}
use Rattle.rays.specs.declared.RaycastResult.TheVariants.{On, Inside, Neither}
use Rattle.cast_test.specs.Test.{cast_at}
use Rattle.tree_find.specs.declared.Listing.{Listing}
use Rattle.tree_find.specs.declared.Testing.{Testing}
use Rattle.tree_find.specs.Inner.Walks.{Taking}

-- a listed number goes to the next place of the room
abbrev pub list_step : (ℕ → Float) → ℕ → Listing → Taking Listing
list_step ring i s =
    cond (ltb s.count (length s.out.now))
    (Ok tt, record s { out = record s.out { now = set s.out.now s.count i }; count = s.count + 1 })
    (Err NoRoom, s)

-- "on" ends with the edge rule; "inside" flips the answer
abbrev pub cast : RaycastResult → Testing → Testing
cast On s = record s { on = true }
cast Inside s = record s { inside = not s.inside }
cast Neither s = s

-- after "on" no segment changes anything
abbrev pub tested_of : (ℕ → Float) → ℕ → Testing → Testing
tested_of ring i s = cond s.on s (cast (cast_at ring i s.p) s)

abbrev pub test_step : (ℕ → Float) → ℕ → Testing → Taking Testing
test_step ring i s = (Ok tt, tested_of ring i s)
