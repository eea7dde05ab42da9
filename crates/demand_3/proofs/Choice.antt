-- An index that was built from a ring, lent as it is used, is the ring's own. Assumes nothing.
use mathlib.Core.Path.{◌≡◌, refl, ap₂, ◌∙◌}
use mathlib.Core.Bool.{true}
use mathlib.Core.List.{List}
use Prim.Native.Nat.{ℕ, ◌-◌, ◌*◌}
use lib.ListN.{length, take, replicate}
use lib.Seq.{take-append_seam}
use lib.IntN.{ℤ}
use lib.Ieee.{Float}
use Rattle.room.specs.Room.{padded, pad}
use Rattle.rings.specs.Ring.{wide, segments}
use Rattle.rings.specs.Checks.{ring_checked}
use Rattle.stripes_count.specs.Count.{stripe_count}
use Rattle.stripes_index.specs.Index.{part_of, list_of as entered, table_of}
use Rattle.stripes_index.proofs.Pairs.{pairs_length}
use Rattle.stripes_build.specs.declared.StripesStats.{StripesStats}
use Rattle.stripes_build.specs.Build.{crosses_in}
use Rattle.stripes_build.proofs.Building.{Indexed as Filled, built_is}
use Rattle.tree.proofs.Searchable.{stored}
use Rattle.tree_build.proofs.Demand.{used}
use Rattle.outline_ring.specs.RingIndex.{Indexes, least_of, height_of, stripes_of, list_of, stripes_lie}
use Rattle.outline_agree.specs.Own.{OwnStripes, OwnIndex}
use Rattle.demand_3.specs.Demand3.{StripesOf, BuiltIndex}

-- the used part of a room
pad_used : (n : ℕ) (xs : List ℕ) (k : ℕ) → length xs ≡ k → take k (pad n xs) ≡ xs
unfolding padded
pad_used n xs k e = rw (← e) (take-append_seam xs (replicate (n - length xs) 0))

module _ (ring : ℕ → Float) (n : ℕ) (stripes list : List ℕ) (least height : Float) (stats : StripesStats) (s l : List ℕ)
    (b : Filled ring n stripes list least height stats s l) where
  used_stripes : take (stats.stripes * 2) s ≡ table_of (crosses_in ring n) n (stripe_count ring n)
  used_stripes =
      let cross = crosses_in ring n in
      let m = stripe_count ring n in
      ap₂ (λ (c : StripesStats) (x : List ℕ). take (c.stripes * 2) x) b.counts b.table
      ∙ pad_used (length stripes) (table_of cross n m) (m * 2) (pairs_length (λ k. length (entered cross n k)) (λ k. length (part_of cross n k)) m)

  used_list : take stats.entries l ≡ entered (crosses_in ring n) n (stripe_count ring n)
  used_list =
      let whole = entered (crosses_in ring n) n (stripe_count ring n) in
      ap₂ (λ (c : StripesStats) (x : List ℕ). take c.entries x) b.counts b.numbers ∙ pad_used (length list) whole (length whole) refl

module _ (x : Indexes) (k : ℕ) (ring : List ℤ) (points : ℕ) where
  own_stripes : (stats : StripesStats) (s l : List ℕ) → StripesOf ring points (least_of x.spans k) (height_of x.spans k) stats s l
      → stripes_of x.table x.stripes k ≡ take (stats.stripes * 2) s → list_of x.table x.list k ≡ take stats.entries l
      → stripes_lie x k ≡ true → OwnStripes x k (wide ring) (segments points)
  own_stripes stats s l (threshold, stripes, list, built) e f lie =
      let n = segments points in
      let least = least_of x.spans k in
      let height = height_of x.spans k in
      let b : Filled (wide ring) n stripes list least height stats s l = (built_is (wide ring) n stripes list least height stats s l _ points threshold refl built).1 in
      record {
        lie = lie;
        few = b.few;
        from = b.from;
        tall = b.tall;
        table = e ∙ used_stripes (wide ring) n stripes list least height stats s l b;
        numbers = f ∙ used_list (wide ring) n stripes list least height stats s l b;
      }

  pub own_built : BuiltIndex x k ring points → OwnIndex x k (wide ring) points
  own_built i =
      record {
        stripes = λ h. let o = i.stripes h in own_stripes o.0 o.1 o.2 o.3 o.4 o.5 o.6;
        lies = λ h. (i.tree h).4;
        tree =
            λ h.
            let o = i.tree h in
            let t = o.2 in
            o.3 ∙ used (ring_checked ring points) (wide ring) points t.0 (stored ring points) t.1 t.2 o.0 o.1 t.3 t.4;
      }
