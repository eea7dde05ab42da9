-- A node that splits: what its record and its quadrants come to. Assumes nothing.
use Rattle.std.specs.Prelude.{Some, None}
use Prim.Native.Nat.{ℕ, ◌+◌, ◌-◌, ◌*◌, ◌≤◌, ◌<◌}
use mathlib.Core.Path.{◌≡◌, refl, sym, ap, ap₂, subst, ◌∙◌}
use mathlib.Core.List.{List, ◌∷◌, ◌++◌, append-nil}
use native.Mathlib.Omega.{arith}
use lib.ListN.{length, take, drop, length-append, length-drop}
use lib.Seq.{drop_at, take-append_seam, drop-append_seam, drop-drop, length-take-le}
use borrow.Rule.Slice.PartMut.{put_mid}
use lib.Ieee.{Float}
use Rattle.boxes.specs.declared.Rect.{Rect}
use Rattle.tree.specs.Tree.{max_items, Tree, split, is_stayer, goes_to, choice, stayers, goers, for_each_quadrant, grown, own_bytes, sized, packed, nodes, in_order}
use Rattle.tree.specs.All.{All}
use Rattle.tree.proofs.Lists.{all_append, all_kept, those_length}
use Rattle.tree.proofs.Share.{kid_of, length_shares}
use Rattle.tree.proofs.Size.{split_size}
use Rattle.tree_part.specs.declared.Shares.{Shares}
use Rattle.tree_part.specs.Part.{Readable, shares_of, parts_of, shared_out}
use Rattle.tree_grow.specs.Inner.Records.{arriving, records}
use Rattle.tree_grow.specs.Inner.Growing.{Crop, crop_of, no_crop, beside, sprout, shares_n, shares_from, crop_from, Stood, Grew}
use Rattle.tree_grow.proofs.Records.{grown_split, arriving_kid}
use Rattle.tree_grow.proofs.Parts.{part_end, put_end}
use Rattle.tree_grow.proofs.Crops.{grew, full, same_tree, step, last}
use Rattle.tree_grow.proofs.Sizes.{small_all, grown_size}

abbrev four : (ℕ → Tree) → Crop
four f = beside (crop_of (f 0)) (beside (crop_of (f 1)) (beside (crop_of (f 2)) (beside (crop_of (f 3)) no_crop)))

module _ (xs : List ℕ) (f : ℕ → Tree) where
  four_count : nodes (split xs f) ≡ (four f).count + 1
  unfolding nodes beside crop_of
  four_count = omega arith

  four_size : length (packed (split xs f)) ≡ length (own_bytes xs) + 1 + (four f).size
  unfolding beside crop_of sized
  four_size = split_size xs f ∙ simp length-append (omega arith)

  four_order : in_order (split xs f) ≡ xs ++ (four f).order
  unfolding in_order beside crop_of
  four_order = simp append-nil

  four_kept : records (split xs f)
      ≡ length xs ∷ arriving (f 0) ∷ arriving (f 1) ∷ arriving (f 2) ∷ arriving (f 3) ∷ length (packed (split xs f)) ∷ (four f).kept
  unfolding records beside crop_of
  four_kept = simp append-nil

module _ (ring : ℕ → Float) (left : ℕ) (box : Rect) (xs : List ℕ) where
  abbrev gone : ℕ → List ℕ
  gone q = goers ring box q xs

  abbrev kid : ℕ → Tree
  kid q = kid_of ring left box xs q

  crop_kids : crop_from ring left box (shares_of ring box xs) 0 (for_each_quadrant gone) ≡ four kid
  unfolding crop_from shares_of sprout
  crop_kids =
      step ring left box (shares_of ring box xs) 3 0 (gone 0) (gone 1 ++ (gone 2 ++ gone 3)) refl
      ∙ ap (beside (crop_of (kid 0))) (step ring left box (shares_of ring box xs) 2 1 (gone 1) (gone 2 ++ gone 3) refl
      ∙ ap (beside (crop_of (kid 1))) (step ring left box (shares_of ring box xs) 1 2 (gone 2) (gone 3) refl
      ∙ ap (beside (crop_of (kid 2))) (last ring left box (shares_of ring box xs) 3 (gone 3) refl)))

  parts_take : take (shares_of ring box xs).own (parts_of ring box xs) ≡ stayers ring box xs
  unfolding shares_of parts_of
  parts_take = take-append_seam (stayers ring box xs) (for_each_quadrant gone)

  parts_drop : drop (shares_of ring box xs).own (parts_of ring box xs) ≡ for_each_quadrant gone
  unfolding shares_of parts_of
  parts_drop = drop-append_seam (stayers ring box xs) (for_each_quadrant gone)

  parts_behind : take (length (parts_of ring box xs) - (shares_of ring box xs).own) (drop (shares_of ring box xs).own (parts_of ring box xs)) ≡ for_each_quadrant gone
  parts_behind = part_end (parts_of ring box xs) (shares_of ring box xs).own ∙ parts_drop

  own_fits : (shares_of ring box xs).own ≤ length (parts_of ring box xs)
  unfolding shares_of parts_of
  own_fits = omega (arith, length-append (stayers ring box xs) (for_each_quadrant gone))

  six_is : (x : ℕ) (zs : List ℕ)
      → (shares_of ring box xs).own ∷ (shares_of ring box xs).nw ∷ (shares_of ring box xs).ne ∷ (shares_of ring box xs).sw ∷ (shares_of ring box xs).se ∷ x ∷ zs
      ≡ length (stayers ring box xs) ∷ arriving (kid 0) ∷ arriving (kid 1) ∷ arriving (kid 2) ∷ arriving (kid 3) ∷ x ∷ zs
  unfolding shares_of
  six_is x zs =
      rw (arriving_kid ring left box xs 0, arriving_kid ring left box xs 1, arriving_kid ring left box xs 2, arriving_kid ring left box xs 3)

  -- what the node's record and its quadrants come to
  module _ (rest y rest₂ rest' : List ℕ) (k size own : ℕ) where
    abbrev Split : Shares × List ℕ → Type 0
    Split z =
        own ≡ length (own_bytes (take z.0.own z.1))
        → Stood (crop_from ring left box z.0 0 (take (length z.1 - z.0.own) (drop z.0.own z.1))) (take (length rest - 6) (drop 6 rest)) k size y rest₂
        → rest' ≡ z.0.own ∷ z.0.nw ∷ z.0.ne ∷ z.0.sw ∷ z.0.se ∷ (own + 1 + size) ∷ drop 6 (put_mid 6 (length rest - 6) rest rest₂)
        → Stood (crop_of (split (stayers ring box xs) kid)) rest (k + 1) (own + 1 + size) (put_mid z.0.own (length z.1 - z.0.own) z.1 y) rest'

    split_stood : 6 ≤ length rest → Split (shared_out ring box xs)
    unfolding crop_of
    split_stood room o g r =
        record {
          counted = omega (arith, h.counted, four_count (stayers ring box xs) kid);
          sized = size_is;
          ordered =
              put_end (parts_of ring box xs) y (shares_of ring box xs).own own_fits ∙ ap₂ (λ (a b : List ℕ). a ++ b) parts_take h.ordered
              ∙ sym (four_order (stayers ring box xs) kid);
          recorded = r ∙ recorded_is;
          fits = omega (arith, h.fits, four_count (stayers ring box xs) kid, left_over);
        }
      where
        h : Stood (four kid) (take (length rest - 6) (drop 6 rest)) k size y rest₂
        h = subst (λ (c : Crop). Stood c (take (length rest - 6) (drop 6 rest)) k size y rest₂)
            (ap (λ (z : List ℕ). crop_from ring left box (shares_of ring box xs) 0 z) parts_behind ∙ crop_kids) g

        left_over : length (take (length rest - 6) (drop 6 rest)) ≡ length rest - 6
        left_over = ap length (part_end rest 6) ∙ length-drop 6 rest

        size_is : own + 1 + size ≡ length (packed (split (stayers ring box xs) kid))
        size_is = omega (arith, h.sized, four_size (stayers ring box xs) kid, o, ap (λ (z : List ℕ). length (own_bytes z)) parts_take)

        together : 6 + 6 * (four kid).count ≡ 6 * nodes (split (stayers ring box xs) kid)
        together = omega (arith, four_count (stayers ring box xs) kid)

        behind : drop 6 (put_mid 6 (length rest - 6) rest rest₂) ≡ (four kid).kept ++ drop (6 * nodes (split (stayers ring box xs) kid)) rest
        behind =
            ap (λ (z : List ℕ). drop 6 z) (put_end rest rest₂ 6 room) ∙ drop_at (take 6 rest) rest₂ 6 (length-take-le 6 rest room) ∙ h.recorded
            ∙ ap (λ (z : List ℕ). (four kid).kept ++ z)
            (ap (λ (z : List ℕ). drop (6 * (four kid).count) z) (part_end rest 6) ∙ drop-drop (6 * (four kid).count) 6 rest
            ∙ ap (λ (z : ℕ). drop z rest) together)

        recorded_is : (shares_of ring box xs).own ∷ (shares_of ring box xs).nw ∷ (shares_of ring box xs).ne ∷ (shares_of ring box xs).sw ∷ (shares_of ring box xs).se
            ∷ (own + 1 + size) ∷ drop 6 (put_mid 6 (length rest - 6) rest rest₂)
            ≡ records (split (stayers ring box xs) kid) ++ drop (6 * nodes (split (stayers ring box xs) kid)) rest
        recorded_is =
            six_is (own + 1 + size) (drop 6 (put_mid 6 (length rest - 6) rest rest₂))
            ∙ ap₂ (λ (x : ℕ) (z : List ℕ). length (stayers ring box xs) ∷ arriving (kid 0) ∷ arriving (kid 1) ∷ arriving (kid 2) ∷ arriving (kid 3) ∷ x ∷ z) size_is behind
            ∙ sym (ap (λ (z : List ℕ). z ++ drop (6 * nodes (split (stayers ring box xs) kid)) rest) (four_kept (stayers ring box xs) kid))

  -- what is known once the shares are
  all_gone : (P : ℕ → Type 0) → All P xs → All P (for_each_quadrant gone)
  all_gone P a = all_append P _ _ (of 0) (all_append P _ _ (of 1) (all_append P _ _ (of 2) (of 3)))
    where
      of : (q : ℕ) → All P (gone q)
      of q = all_kept P (λ i. goes_to q (choice ring box i)) xs a

  gone_few : length (for_each_quadrant gone) ≤ length xs
  gone_few = simp length-append (omega (arith, length_shares ring box xs))

  gone_length : shares_from (shares_of ring box xs) 0 ≡ length (for_each_quadrant gone)
  unfolding shares_from shares_n shares_of
  gone_length = simp length-append (omega arith)

  few : ((shares_of ring box xs).own ≤ length xs) × ((shares_of ring box xs).nw ≤ length xs) × ((shares_of ring box xs).ne ≤ length xs)
      × ((shares_of ring box xs).sw ≤ length xs) × ((shares_of ring box xs).se ≤ length xs)
  unfolding shares_of
  few = (those_length (λ i. is_stayer (choice ring box i)) xs, of 0, of 1, of 2, of 3)
    where
      of : (q : ℕ) → length (gone q) ≤ length xs
      of q = those_length (λ i. goes_to q (choice ring box i)) xs

  four_full : (rest : List ℕ) → 6 ≤ length rest
      → length (take (length rest - 6) (drop 6 rest))
      < 6 * (crop_from ring left box (shares_of ring box xs) 0
      (take (length (parts_of ring box xs) - (shares_of ring box xs).own) (drop (shares_of ring box xs).own (parts_of ring box xs)))).count
      → length rest < 6 * (crop_of (split (stayers ring box xs) kid)).count
  unfolding crop_of
  four_full rest room h =
      omega (
        arith,
        h,
        four_count (stayers ring box xs) kid,
        ap length (part_end rest 6),
        length-drop 6 rest,
        ap (λ (z : List ℕ). (crop_from ring left box (shares_of ring box xs) 0 z).count) parts_behind,
        ap (λ (c : Crop). c.count) crop_kids,
      )

-- A node that splits, as the code has it: its segments shared out, and room for its record.
pub record Splits (total : ℕ) (ring : ℕ → Float) (left : ℕ) (box : Rect) (xs : List ℕ) (s : Shares) (run rest : List ℕ) : Type 0 where
  pub shared : shared_out ring box xs ≡ (s, run)
  pub deep : left < 64
  pub many : max_items < length xs
  pub few : length xs ≤ 4096
  pub readable : All (Readable total) xs
  pub room : 6 ≤ length rest

module _ {total : ℕ} {ring : ℕ → Float} {left : ℕ} {box : Rect} {xs : List ℕ} {s : Shares} {run rest : List ℕ} (h : Splits total ring left box xs s run rest) where
  abbrev behind_of : Shares × List ℕ → List ℕ
  behind_of z = take (length z.1 - z.0.own) (drop z.0.own z.1)

  -- what holds of what `share_out` gives holds of what it gave
  given : (P : Shares × List ℕ → Type 0) → P (shared_out ring box xs) → P (s, run)
  given P p = subst P h.shared p

  pub own_within : s.own ≤ length run
  own_within = given (λ z. z.0.own ≤ length z.1) (own_fits ring left box xs)

  pub own_counted : s.own ≡ length (take s.own run)
  own_counted = sym (length-take-le s.own run own_within)

  shares_few : (s.own ≤ length xs) × (s.nw ≤ length xs) × (s.ne ≤ length xs) × (s.sw ≤ length xs) × (s.se ≤ length xs)
  shares_few =
      given (λ z. (z.0.own ≤ length xs) × (z.0.nw ≤ length xs) × (z.0.ne ≤ length xs) × (z.0.sw ≤ length xs) × (z.0.se ≤ length xs)) (few ring left box xs)

  pub own_few : s.own ≤ 4096
  own_few = omega (arith, shares_few.0, h.few)

  pub shares_fit : (s.own < 4294967296) × (s.nw < 4294967296) × (s.ne < 4294967296) × (s.sw < 4294967296) × (s.se < 4294967296)
  shares_fit =
      let w = h.few in
      (omega (arith, shares_few.0), omega (arith, shares_few.1), omega (arith, shares_few.2), omega (arith, shares_few.3), omega (arith, shares_few.4))

  -- what the quadrants ask
  pub quadrants_ask : (left < 64) × (0 ≤ 4) × (length (behind_of (s, run)) ≤ 4096) × All (Readable total) (behind_of (s, run)) × (shares_from s 0 ≡ length (behind_of (s, run)))
  quadrants_ask = (
    h.deep,
    omega arith,
    omega (arith, h.few, given (λ z. length (behind_of z) ≤ length xs) (rw (parts_behind ring left box xs) (gone_few ring left box xs))),
    given (λ z. All (Readable total) (behind_of z)) (rw (parts_behind ring left box xs) (all_gone ring left box xs (Readable total) h.readable)),
    given (λ z. shares_from z.0 0 ≡ length (behind_of z)) (gone_length ring left box xs ∙ ap length (sym (parts_behind ring left box xs))),
  )

  pub split_full : {a b : List ℕ} → length (take (length rest - 6) (drop 6 rest)) < 6 * (crop_from ring left box s 0 (behind_of (s, run))).count
      → Grew (crop_of (grown ring (left + 1) box xs)) rest None a b
  split_full l =
      same_tree (grown_split ring left box xs h.many)
      (full (given (λ z. length (take (length rest - 6) (drop 6 rest)) < 6 * (crop_from ring left box z.0 0 (behind_of z)).count → length rest < 6 * (crop_of (split (stayers ring box xs) (kid_of ring left box xs))).count)
      (four_full ring left box xs rest h.room) l))

  module _ {y rest₂ : List ℕ} {k size : ℕ} (own : ℕ) (o : own ≡ length (own_bytes (take s.own run)))
      (g : Stood (crop_from ring left box s 0 (behind_of (s, run))) (take (length rest - 6) (drop 6 rest)) k size y rest₂) where
    pub split_grew : {rest' : List ℕ}
        → rest' ≡ s.own ∷ s.nw ∷ s.ne ∷ s.sw ∷ s.se ∷ (own + 1 + size) ∷ drop 6 (put_mid 6 (length rest - 6) rest rest₂)
        → Grew (crop_of (grown ring (left + 1) box xs)) rest (Some (k + 1, own + 1 + size)) (put_mid s.own (length run - s.own) run y) rest'
    split_grew {rest'} r =
        same_tree (grown_split ring left box xs h.many)
        (grew (given (Split ring left box xs rest y rest₂ rest' k size own) (split_stood ring left box xs rest y rest₂ rest' k size own h.room) o g r))

    pub split_small : own + 1 + size < 4294967296
    unfolding crop_of
    split_small =
        omega (arith, (split_grew refl).out.sized, grown_size ring (left + 1) box (omega (arith, h.deep)) xs (omega (arith, h.many)) h.few (small_all total xs h.readable), h.few)
