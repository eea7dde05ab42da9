-- From how far a search came to what is answered. Assumes nothing.
use Prim.Native.Nat.{ℕ, ◌+◌, ◌≤◌, ◌<◌}
use mathlib.Core.Path.{◌≡◌, refl, sym, ap, ap₂, ◌∙◌}
use mathlib.Core.List.{List, [], ◌∷◌}
use mathlib.Core.Bool.{Bool, true, false, cond, not, ◌&&◌}
use mathlib.Core.Logic.{⊎_elim}
use native.Mathlib.Omega.{arith}
use native.Mathlib.Nat.{add-zero, zero-add}
use lib.ListN.{length, set, replicate, length-set, length-replicate}
use lib.Ieee.{Float}
use lib.Ieee.Scale.{finite}
use borrow.Author.Tests.{lt-ltb, le-ltb, le-leb, lt-leb}
use Rattle.std.specs.Prelude.{Result, Ok, Err}
use Rattle.answers.specs.declared.Refusal.{Refusal}
use Rattle.answers.specs.declared.Refusal.TheVariants.{NoRoom, BadHeight}
use Rattle.answers.specs.Answers.{Answer}
use Rattle.answers.specs.Answers.{said}
use Rattle.boxes.specs.declared.Point.{Point}
use Rattle.rays.specs.declared.RaycastResult.{RaycastResult}
use Rattle.rays.specs.declared.RaycastResult.TheVariants.{On, Inside, Neither}
use Rattle.rings.specs.Ring.{segments}
use Rattle.rings.specs.Checks.{Checked}
use Rattle.rings.specs.Checks.{when_sound}
use Rattle.rings.specs.RingTest.{test_from}
use Rattle.room.specs.Room.{write}
use Rattle.room.proofs.Cases.{lt_or}
use Rattle.room.proofs.Fill.{write_pad}
use Rattle.cast_test.specs.Test.{cast_at, is_on, is_inside}
use Rattle.tree.specs.Search.{Found, End, ends, fails, searched}
use Rattle.tree.specs.Tree.{ring_box}
use Rattle.tree_find.specs.declared.Listing.{Listing}
use Rattle.tree_find.specs.declared.Testing.{Testing}
use Rattle.tree_find.specs.Inner.Walks.{Out, shown, onward, poured, pour}
use Rattle.tree_find.specs.Inner.Visits.{list_step, test_step, cast}
use Rattle.tree_find.specs.Find.{Outcome, answered, list_when_sound, tree_listed_by, tree_tested_by, verdict}

-- what the calls do with a sound ring
abbrev list_later : (ℕ → Float) → ℕ → List ℕ → Float → List ℕ → Outcome
list_later ring points bytes y room = cond (finite y) (answered (length room) (searched bytes ring (segments points) y (ring_box ring points))) (Err BadHeight, room)

abbrev test_later : (ℕ → Float) → ℕ → List ℕ → Point → Bool → Answer
test_later ring points bytes p edge = cond (finite p.x && finite p.y) (verdict ring p edge (searched bytes ring (segments points) p.y (ring_box ring points))) (Ok false)

-- ---- lists

-- with this room, and so many listed
abbrev at : Listing → List ℕ → ℕ → Listing
at s o n = record s { out = record s.out { now = o }; count = n }

-- what a finished search says of the answer, where it began with a room of n zeros
abbrev Says : ℕ → Found → Out Listing → Type 0
Says n f (Ok p, s) = answered n f ≡ (Ok s.count, s.out.now)
Says n f (Err why, s) = answered n f ≡ (Err why, replicate n 0)

module _ (ring : ℕ → Float) where
  list_fits : (xs : List ℕ) (e : End) (s : Listing) → s.count + length xs ≤ length s.out.now
      → poured (list_step ring) xs e s ≡ (shown e, at s (write s.out.now s.count xs) (s.count + length xs))
  unfolding poured onward write
  list_fits [] e s h = ap (λ (n : ℕ). (shown e, at s s.out.now n)) (sym (add-zero s.count))
  list_fits (x ∷ xs) e s h =
      rw (lt-ltb s.count (length s.out.now) (omega arith))
      (list_fits xs e (at s (set s.out.now s.count x) (s.count + 1)) (simp length-set (omega arith))
      ∙ ap (λ (n : ℕ). (shown e, at s (write (set s.out.now s.count x) (s.count + 1) xs) n)) (omega arith))

  list_short : (xs : List ℕ) (e : End) (s : Listing) → s.count ≤ length s.out.now → length s.out.now < s.count + length xs → (poured (list_step ring) xs e s).0 ≡ Err NoRoom
  unfolding poured onward
  list_short [] e s l h = absurd (omega arith)
  list_short (x ∷ xs) e s l h =
      ⊎_elim
      (λ lt. rw (lt-ltb s.count (length s.out.now) lt) (list_short xs e (at s (set s.out.now s.count x) (s.count + 1)) (simp length-set (omega arith)) (simp length-set (omega arith))))
      (λ ge. rw (le-ltb s.count (length s.out.now) ge)) (lt_or s.count (length s.out.now))

  -- the visitor keeps its room
  list_keeps : (xs : List ℕ) (e : End) (s : Listing) → (poured (list_step ring) xs e s).1.out.ghost_name ≡ s.out.ghost_name
  unfolding poured onward
  list_keeps [] e s = refl
  list_keeps (x ∷ xs) e s =
      ⊎_elim (λ lt. rw (lt-ltb s.count (length s.out.now) lt) (list_keeps xs e (at s (set s.out.now s.count x) (s.count + 1)))) (λ ge. rw (le-ltb s.count (length s.out.now) ge))
      (lt_or s.count (length s.out.now))

  module _ (s : Listing) (none : s.count ≡ 0) (n : ℕ) (clear : s.out.now ≡ replicate n 0) where
    fits_says : (xs : List ℕ) (e : End) → length xs ≤ n → Says n (xs, e) (shown e, at s (write s.out.now s.count xs) (s.count + length xs))
    unfolding answered
    fits_says xs (ends p) h =
        rw (le-leb (length xs) n h, clear, none)
        (ap₂ (λ (k : ℕ) (o : List ℕ). (Ok k, o)) (sym (zero-add (length xs))) (sym (write_pad n xs h)))
    fits_says xs (fails why) h = rw (le-leb (length xs) n h)

    short_says : (xs : List ℕ) (e : End) (x : Out Listing) → n < length xs → x.0 ≡ Err NoRoom → Says n (xs, e) x
    unfolding answered
    short_says xs e (Ok p, s) h k = absurd (let z : ◌≡◌ {A = ℕ} 0 1 = cc in omega arith)
    short_says xs e (Err why, s) h k = let w : NoRoom ≡ why = cc in rw (lt-leb (length xs) n h, w)

    list_says : (f : Found) → Says n f (pour (list_step ring) f s)
    list_says (xs, e) =
        let l : length s.out.now ≡ n = ap length clear ∙ length-replicate n 0 in
        ⊎_elim
        (λ (lt : n < length xs). short_says xs e _ lt (list_short xs e s (omega arith) (omega arith)))
        (λ (ge : length xs ≤ n). rw (list_fits xs e s (omega arith)) (fits_says xs e ge))
        (lt_or n (length xs))

    -- in the form in which the code meets it: the room is x, if the visitor ends with the room that it was made with
    module _ (f : Found) (s' : Listing) (x : List ℕ) where
      keeps : (e : Result ℕ Refusal) → pour (list_step ring) f s ≡ (e, s') → s.out.ghost_name ≡ s'.out.ghost_name
      keeps e h = sym (list_keeps f.0 f.1 s) ∙ ap (λ (r : Out Listing). r.1.out.ghost_name) h

      pub list_reached : (p : ℕ) → pour (list_step ring) f s ≡ (Ok p, s') → (s.out.ghost_name ≡ s'.out.ghost_name → x ≡ s'.out.now) → answered n f ≡ (Ok s'.count, x)
      list_reached p e same = rw (same (keeps (Ok p) e)) (rw e at (list_says f))

      -- filled with k zeros after it
      pub list_stopped : (why : Refusal) (k : ℕ) → pour (list_step ring) f s ≡ (Err why, s') → (s.out.ghost_name ≡ s'.out.ghost_name → x ≡ replicate k 0) → length x ≡ n
          → answered n f ≡ (Err why, x)
      list_stopped why k e same long =
          let z = same (keeps (Err why) e) in
          let l : k ≡ n = sym (length-replicate k 0) ∙ sym (ap length z) ∙ long in
          rw (z, l) (rw e at (list_says f))

-- ---- ring tests
module _ (ring : ℕ → Float) (p : Point) (edge : Bool) where
  abbrev on : ℕ → Bool
  on i = is_on (cast_at ring i p)

  abbrev inside : ℕ → Bool
  inside i = is_inside (cast_at ring i p)

  -- the visitor of this point
  abbrev state : Bool → Bool → Testing
  state b i = record { p = p; on = b; inside = i }

  -- what the rest of a list does to an answer
  abbrev rest : Bool → Bool → List ℕ → Bool
  rest b i xs = cond b edge (test_from on inside edge i xs)

  -- where a list leaves it
  abbrev Tests : List ℕ → End → Bool → Bool → Type 0
  Tests xs e b i = (b' : Bool) × (i' : Bool) × (poured (test_step ring) xs e (state b i) ≡ (shown e, state b' i')) × (rest b i xs ≡ cond b' edge i')

  tests : (xs : List ℕ) (e : End) (b i : Bool) → Tests xs e b i
  unfolding poured onward test_from
  tests [] e b i = (b, i, refl, refl)
  tests (x ∷ xs) e true i = tests xs e true i
  tests (x ∷ xs) e false i = go (cast_at ring x p) (tests xs e true i) (tests xs e false (not i)) (tests xs e false i)
    where
      go : (r : RaycastResult) → Tests xs e true i → Tests xs e false (not i) → Tests xs e false i
          → (b' : Bool) × (i' : Bool) × (poured (test_step ring) xs e (cast r (state false i)) ≡ (shown e, state b' i'))
          × (cond (is_on r) edge (test_from on inside edge (cond (is_inside r) (not i) i) xs) ≡ cond b' edge i')
      go On a b c = a
      go Inside a b c = b
      go Neither a b c = c

  test_reached : (f : Found) (s : Testing) (q : ℕ) → pour (test_step ring) f (state false false) ≡ (Ok q, s) → verdict ring p edge f ≡ said (cond s.on edge s.inside)
  unfolding verdict
  test_reached (xs, ends q') s q e =
      let t = tests xs (ends q') false false in
      ap said t.3 ∙ ap (λ (r : Out Testing). said (cond r.1.on edge r.1.inside)) (sym t.2 ∙ e)
  test_reached (xs, fails why) s q e = let t = tests xs (fails why) false false in let k : (Err why) ≡ (Ok q) = ap (λ (r : Out Testing). r.0) (sym t.2 ∙ e) in absurd (cc)

  pub test_on : (f : Found) (s : Testing) (q : ℕ) → pour (test_step ring) f (state false false) ≡ (Ok q, s) → s.on ≡ true → said edge ≡ verdict ring p edge f
  test_on f s q e h = sym (test_reached f s q e ∙ rw h)

  pub test_off : (f : Found) (s : Testing) (q : ℕ) → pour (test_step ring) f (state false false) ≡ (Ok q, s) → s.on ≡ false → said s.inside ≡ verdict ring p edge f
  test_off f s q e h = sym (test_reached f s q e ∙ rw h)

  pub test_stopped : (f : Found) (s : Testing) (why : Refusal) → pour (test_step ring) f (state false false) ≡ (Err why, s) → verdict ring p edge f ≡ Err why
  unfolding verdict
  test_stopped (xs, ends q) s why e = let t = tests xs (ends q) false false in let k : (Ok q) ≡ (Err why) = ap (λ (r : Out Testing). r.0) (sym t.2 ∙ e) in absurd (cc)
  test_stopped (xs, fails why') s why e =
      let t = tests xs (fails why') false false in
      let k : (Err why') ≡ (Err why) = ap (λ (r : Out Testing). r.0) (sym t.2 ∙ e) in
      let w : why' ≡ why = cc in
      ap Err w

-- ---- the checks before a search
module _ (checked : Checked) (ring : ℕ → Float) (points : ℕ) (bytes : List ℕ) where
  module _ (y : Float) (room : List ℕ) where
    module _ (e : checked ≡ Ok tt) where
      sound_list : tree_listed_by checked ring points bytes y room ≡ list_later ring points bytes y room
      unfolding tree_listed_by
      sound_list = ap (λ (c : Checked). list_when_sound c room (list_later ring points bytes y room)) e

      pub listed_sound : finite y ≡ true → tree_listed_by checked ring points bytes y room ≡ answered (length room) (searched bytes ring (segments points) y (ring_box ring points))
      listed_sound f = sound_list ∙ rw f

  module _ (p : Point) (edge : Bool) where
    module _ (e : checked ≡ Ok tt) where
      sound_test : tree_tested_by checked ring points bytes p edge ≡ test_later ring points bytes p edge
      unfolding tree_tested_by
      sound_test = ap (λ (c : Checked). when_sound c (test_later ring points bytes p edge)) e

      pub tested_unfit : (finite p.x && finite p.y) ≡ false → Ok false ≡ tree_tested_by checked ring points bytes p edge
      tested_unfit f = sym (sound_test ∙ ap (λ (b : Bool). cond b (verdict ring p edge (searched bytes ring (segments points) p.y (ring_box ring points))) (Ok false)) f)

      pub tested_sound : (finite p.x && finite p.y) ≡ true → verdict ring p edge (searched bytes ring (segments points) p.y (ring_box ring points)) ≡ tree_tested_by checked ring points bytes p edge
      tested_sound f = sym (sound_test ∙ ap (λ (b : Bool). cond b (verdict ring p edge (searched bytes ring (segments points) p.y (ring_box ring points))) (Ok false)) f)
