-- The quadrants of a node, one behind the other: each step of the code against what stands in the room after it. Assumes nothing.
use Rattle.std.specs.Prelude.{Some, None}
use Prim.Native.Nat.{ℕ, ◌+◌, ◌-◌, ◌*◌, ◌≤◌, ◌<◌}
use mathlib.Core.Path.{◌≡◌, refl, sym, ap, subst}
use mathlib.Core.List.{List, [], ◌∷◌, ◌++◌}
use native.Mathlib.Omega.{arith}
use lib.ListN.{length, take, drop, length-drop}
use lib.Seq.{length-take-le, length_front}
use borrow.Rule.Slice.PartMut.{put_mid}
use lib.Ieee.{Float}
use Rattle.boxes.specs.declared.Rect.{Rect}
use Rattle.boxes.specs.Quads.{quad_bounds}
use Rattle.varint.specs.Leb128.{encode}
use Rattle.tree.specs.All.{All}
use Rattle.tree_part.specs.declared.Shares.{Shares}
use Rattle.tree_part.specs.Part.{Readable}
use Rattle.tree_grow.specs.Inner.Growing.{Crop, crop_of, beside, sprout, share_of, shares_from, crop_from, Stood, Grew}
use Rattle.tree_grow.proofs.Records.{records_length}
use Rattle.tree_grow.proofs.Parts.{part_behind}
use Rattle.tree_grow.proofs.Crops.{grew, full, same_crop, left_over, beside_full, beside_stood, shares_more, shares_done, crop_done, crop_more}
use Rattle.tree_grow.proofs.Sizes.{all_take, all_drop, small_all, from_size}

nothing : (xs : List ℕ) → length xs ≡ 0 → xs ≡ []
nothing [] e = refl
nothing (x ∷ xs) e = absurd (omega arith)

-- none is left
pub from_none : (ring : ℕ → Float) (left : ℕ) (box : Rect) (s : Shares) (q : ℕ) (run rest : List ℕ) → q ≡ 4 → shares_from s q ≡ length run
    → Grew (crop_from ring left box s q run) rest (Some (0, 0)) run rest
from_none ring left box s q run rest e l =
    same_crop (crop_done ring left box s q run e)
    (grew (record { counted = refl; sized = refl; ordered = nothing run (omega (arith, l, shares_done ring left box s q e)); recorded = refl; fits = omega arith }))

-- Quadrant q, as the code has it: n segments at the front of the run.
pub record Next (total : ℕ) (ring : ℕ → Float) (left : ℕ) (box : Rect) (s : Shares) (q : ℕ) (run : List ℕ) (n : ℕ) : Type 0 where
  pub deep : left < 64
  pub last : q ≤ 4
  pub more : q ≡ 4 → ⊥
  pub few : length run ≤ 4096
  pub readable : All (Readable total) run
  pub shares : shares_from s q ≡ length run
  pub share : n ≡ share_of s q

module _ {total : ℕ} {ring : ℕ → Float} {left : ℕ} {box : Rect} {s : Shares} {q : ℕ} {run : List ℕ} {n : ℕ} (h : Next total ring left box s q run n) where
  pub share_within : n ≤ length run
  share_within = omega (arith, h.shares, h.share, shares_more ring left box s q h.last h.more)

  pub share_counted : n ≡ length (take n run)
  share_counted = sym (length-take-le n run share_within)

  -- what growing the quadrant asks
  pub quadrant_asks : (left ≤ 64) × (length (take n run) ≤ 4096) × All (Readable total) (take n run)
  quadrant_asks = (omega (arith, h.deep), omega (arith, h.few, share_within, share_counted), all_take (Readable total) n run h.readable)

  module _ (inner : Rect) (b : inner ≡ quad_bounds box q) where
    abbrev here : Crop
    here = crop_of (sprout ring left inner (take n run))

    crop_here : crop_from ring left box s q run ≡ beside here (crop_from ring left box s (q + 1) (drop n run))
    crop_here = rw (h.share, b) (crop_more ring left box s q run h.last h.more)

    pub from_full : {rest a a' : List ℕ} → length rest < 6 * here.count → Grew (crop_from ring left box s q run) rest None a a'
    unfolding beside
    from_full l = same_crop crop_here (full (omega arith))

-- The quadrant stands: p is its part of the run, and rest₁ the room for records, of which k nodes took the front.
pub record Front (total : ℕ) (ring : ℕ → Float) (left : ℕ) (box : Rect) (s : Shares) (q : ℕ) (run : List ℕ) (n : ℕ) (rest p rest₁ : List ℕ) (k size : ℕ) : Type 0 where
  pub next : Next total ring left box s q run n
  pub inner : Rect
  pub inside : inner ≡ quad_bounds box q
  pub long : length p ≡ length (take n run)
  pub kept : length rest₁ ≡ length rest
  pub stands : Stood (crop_of (sprout ring left inner (take n run))) rest k size p rest₁

module _ {total : ℕ} {ring : ℕ → Float} {left : ℕ} {box : Rect} {s : Shares} {q : ℕ} {run : List ℕ} {n : ℕ} {rest p rest₁ : List ℕ} {k size : ℕ}
    (h : Front total ring left box s q run n rest p rest₁ k size) where
  abbrev first : Crop
  first = crop_of (sprout ring left h.inner (take n run))

  abbrev behind : List ℕ
  behind = take (length (p ++ drop n run) - n) (drop n (p ++ drop n run))

  abbrev rest_behind : List ℕ
  rest_behind = take (length rest₁ - k * 6) (drop (k * 6) rest₁)

  behind_is : behind ≡ drop n run
  behind_is = part_behind run p n (share_within h.next) h.long

  first_long : length first.kept ≡ 6 * first.count
  unfolding crop_of
  first_long = records_length (sprout ring left h.inner (take n run))

  pub share_in : n ≤ length (p ++ drop n run)
  share_in = omega (arith, share_within h.next, length_front run p n h.long)

  -- what the quadrants behind it ask
  pub behind_asks : (left < 64) × (q + 1 ≤ 4) × (length behind ≤ 4096) × All (Readable total) behind × (shares_from s (q + 1) ≡ length behind)
  behind_asks =
      let x = h.next in (
        x.deep,
        omega (arith, x.last, x.more),
        omega (arith, x.few, ap length behind_is, length-drop n run),
        rw behind_is (all_drop (Readable total) n run x.readable),
        omega (arith, x.shares, x.share, shares_more ring left box s q x.last x.more, ap length behind_is, length-drop n run),
      )

  pub behind_full : {a a' : List ℕ} → length rest_behind < 6 * (crop_from ring left box s (q + 1) behind).count → Grew (crop_from ring left box s q run) rest None a a'
  behind_full l =
      same_crop (crop_here h.next h.inner h.inside)
      (full (beside_full first (crop_from ring left box s (q + 1) (drop n run)) rest p rest₁ k size first_long h.stands (rw behind_is at l)))

  module _ {y rest₂ : List ℕ} {k₂ size₂ : ℕ} (g : Stood (crop_from ring left box s (q + 1) behind) rest_behind k₂ size₂ y rest₂) where
    pub nodes_fit : 6 * (k + k₂) ≤ length rest
    nodes_fit =
        omega (arith, h.stands.counted, h.stands.fits, g.counted, g.fits, left_over first (crop_from ring left box s (q + 1) behind) rest p rest₁ k size first_long h.stands)

    module _ (len : ℕ) (i : len ≡ length (encode size)) where
      pub from_grew : Grew (crop_from ring left box s q run) rest (Some (k + k₂, len + size + size₂))
          (put_mid n (length (p ++ drop n run) - n) (p ++ drop n run) y) (put_mid (k * 6) (length rest₁ - k * 6) rest₁ rest₂)
      from_grew =
          same_crop (crop_here h.next h.inner h.inside)
          (grew (beside_stood first (crop_from ring left box s (q + 1) (drop n run)) rest p rest₁ k size first_long h.stands run y rest₂ n k₂ size₂ len
          (share_within h.next) h.long i h.kept
          (subst (λ (z : List ℕ). Stood (crop_from ring left box s (q + 1) z) rest_behind k₂ size₂ y rest₂) behind_is g)))

      pub sizes_small : len + size + size₂ < 4294967296
      sizes_small =
          let x = h.next in
          omega (arith, from_grew.out.sized, from_size ring left box s (omega (arith, x.deep)) q run x.few (small_all total run x.readable))
