-- Demand 3 for stripes: searching the index built from a ring finds, for every y, exactly the segments whose own closed height range holds y, each
-- once, by rising number. Assumes nothing.
use Rattle.std.specs.Prelude.{Ok}
use mathlib.Core.Path.{◌≡◌, refl, sym, ap, ap₂, ◌∙◌}
use mathlib.Core.List.{List, [], ◌++◌, append-nil}
use Prim.Native.Nat.{ℕ, ◌+◌, ◌*◌, ◌≤◌, ◌<◌}
use native.Mathlib.Omega.{arith}
use mathlib.Core.Bool.{Bool}
use lib.ListN.{length, take}
use lib.Seq.{take-append_seam}
use lib.IntN.{ℤ}
use lib.Ieee.{Float}
use Rattle.room.specs.Numbers.{up_to}
use Rattle.room.specs.Room.{padded, pad}
use Rattle.rings.specs.Ring.{wide, side_at, segments, holds_height, meeting}
use Rattle.rings.specs.I32s.{I32s}
use Rattle.rings.specs.Checks.{ring_checked}
use Rattle.rings.proofs.Checks.{sound_ring}
use Rattle.stripes_count.specs.Count.{stripe_count}
use Rattle.stripes_count.proofs.Least.{some_stripes}
use Rattle.stripes_build.specs.declared.StripesStats.{StripesStats}
use Rattle.stripes_index.specs.Index.{part_of, list_of, table_of, least_y, height_y, crosses}
use Rattle.stripes_build.specs.Build.{striped, crosses_in, stripes_built}
use Rattle.stripes_index.proofs.Pairs.{pairs_length}
use Rattle.stripes_build.proofs.Building.{Indexed, built_is}
use Rattle.stripes_find.specs.Search.{complete, searched}
use Rattle.stripes_agree.proofs.Outside.{coordinates, not_out}
use Rattle.stripes_agree.proofs.Law.{found_by}

meeting_is : (ring : ℕ → Float) (points : ℕ) (y : Float) → meeting ring points y ≡ up_to (λ i. holds_height (side_at ring i) y) (segments points) 0
unfolding meeting
meeting_is ring points y = refl

-- ---- in a stored ring's own index of m stripes, whatever stands behind its list, the search finds the segments whose own range holds y
module _ (ring : List ℤ) (n m : ℕ) (long : n * 2 + 2 ≤ length ring) (nums : I32s ring) (some : 0 < m) (few : m ≤ 65536) (rest : List ℕ) (y : Float) where
  abbrev cross : ℕ → ℕ → Bool
  cross = crosses (wide ring) (least_y (wide ring) n) (height_y (wide ring) n) m

  pub found_all : searched (wide ring) n (least_y (wide ring) n) (height_y (wide ring) n) (table_of cross n m) (list_of cross n m ++ rest) y
      ≡ record { found = up_to (λ i. holds_height (side_at (wide ring) i) y) n 0; ending = complete }
  found_all = found_by (wide ring) n m (coordinates ring n long nums y) some few rest y _ (not_out ring n long nums y)

-- ---- in the used part of the room that building filled
pad_used : (n : ℕ) (xs : List ℕ) (k : ℕ) → length xs ≡ k → take k (pad n xs) ≡ xs
unfolding padded
pad_used n xs k e = rw (← e) (take-append_seam xs _)

module _ (ring : List ℤ) (points threshold : ℕ) (nums : I32s ring) (stripes list : List ℕ) (least height : Float) (stats : StripesStats) (s l : List ℕ)
    (built : stripes_built ring points threshold stripes list ≡ (striped least height stats, s, l)) (y : Float) where
  pub built_sound : ring_checked ring points ≡ Ok tt
  built_sound = (built_is (wide ring) (segments points) stripes list least height stats s l _ points threshold refl built).0

  pub finds_meeting : searched (wide ring) (segments points) least height (take (stats.stripes * 2) s) (take stats.entries l) y
      ≡ record { found = meeting (wide ring) points y; ending = complete }
  finds_meeting =
      let n = segments points in
      let b : Indexed (wide ring) n stripes list least height stats s l = (built_is (wide ring) n stripes list least height stats s l _ points threshold refl built).1 in
      let a = sound_ring ring points built_sound in
      let m = stripe_count (wide ring) n in
      let cross = crosses_in (wide ring) n in
      let t : take (stats.stripes * 2) s ≡ table_of cross n m =
      ap₂ (λ (c : StripesStats) (x : List ℕ). take (c.stripes * 2) x) b.counts b.table
      ∙ pad_used (length stripes) (table_of cross n m) (m * 2) (pairs_length (λ k. length (list_of cross n k)) (λ k. length (part_of cross n k)) m) in
      let u : take stats.entries l ≡ list_of cross n m ++ [] =
      ap₂ (λ (c : StripesStats) (x : List ℕ). take c.entries x) b.counts b.numbers
      ∙ pad_used (length list) (list_of cross n m) (length (list_of cross n m)) refl
      ∙ sym (append-nil (list_of cross n m)) in
      rw (t, u, b.from, b.tall)
      (found_all ring n m (omega (arith, a.enough, a.sizes)) nums (omega (arith, some_stripes (wide ring) n)) b.few [] y
      ∙ ap (λ (xs : List ℕ). record { found = xs; ending = complete }) (sym (meeting_is (wide ring) points y)))
