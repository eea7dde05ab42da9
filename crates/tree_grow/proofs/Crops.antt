-- Laws of trees that stand side by side: what growing one after the other comes to. Assumes nothing.
use Rattle.std.specs.Prelude.{Some, None}
use Prim.Native.Nat.{ℕ, suc, ◌+◌, ◌-◌, ◌*◌, ◌≤◌, ◌<◌}
use mathlib.Core.Path.{◌≡◌, refl, sym, ap, ap₂, subst, ◌∙◌}
use mathlib.Core.List.{List, [], ◌∷◌, ◌++◌, append_assoc}
use native.Mathlib.Omega.{arith}
use lib.ListN.{length, take, drop, length-append, length-drop}
use lib.Seq.{take_at, drop_at, take_all, drop-drop}
use borrow.Rule.Slice.PartMut.{put_mid}
use lib.Ieee.{Float}
use Rattle.boxes.specs.declared.Rect.{Rect}
use Rattle.boxes.specs.Quads.{quad_bounds}
use Rattle.varint.specs.Leb128.{encode}
use Rattle.tree.specs.Tree.{Tree, leaf, grown, own_bytes, packed, nodes, in_order}
use Rattle.tree_part.specs.declared.Shares.{Shares}
use Rattle.tree_grow.specs.Inner.Growing.{Growth}
use Rattle.tree_grow.specs.Inner.Records.{records}
use Rattle.tree_grow.specs.Inner.Growing.{Crop, crop_of, no_crop, beside, sprout, share_of, shares_n, shares_from, crop_n, crop_from, Stood, Grew, Rooted}
use Rattle.tree_grow.proofs.Records.{nodes_some}
use Rattle.tree_grow.proofs.Parts.{part_end, put_end, put_behind}

pub grew : {c : Crop} {rest : List ℕ} {n size : ℕ} {a b : List ℕ} → Stood c rest n size a b → Grew c rest (Some (n, size)) a b
grew s = record { out = s }

pub full : {c : Crop} {rest a b : List ℕ} → length rest < 6 * c.count → Grew c rest None a b
full h = record { out = h }

-- the same trees by another name
pub same_crop : {c d : Crop} {rest : List ℕ} {r : Growth} {a b : List ℕ} → c ≡ d → Grew d rest r a b → Grew c rest r a b
same_crop {c} {d} {rest} {r} {a} {b} e g = subst (λ (z : Crop). Grew z rest r a b) (sym e) g

pub same_tree : {t u : Tree} {rest : List ℕ} {r : Growth} {a b : List ℕ} → t ≡ u → Grew (crop_of u) rest r a b → Grew (crop_of t) rest r a b
same_tree e g = same_crop (ap crop_of e) g

-- ---- one tree
pub none_grew : (ring : ℕ → Float) (left : ℕ) (box : Rect) (xs rest : List ℕ) → length xs ≡ 0 → Grew (crop_of (sprout ring left box xs)) rest (Some (0, 0)) xs rest
unfolding crop_of sprout nodes packed in_order records
none_grew ring left box [] rest e = grew (record { counted = refl; sized = refl; ordered = refl; recorded = refl; fits = omega arith })
none_grew ring left box (x ∷ xs) rest e = absurd (omega arith)

pub sprout_some : (ring : ℕ → Float) (left : ℕ) (box : Rect) (xs : List ℕ) → (length xs ≡ 0 → ⊥) → sprout ring left box xs ≡ grown ring left box xs
unfolding sprout
sprout_some ring left box [] h = absurd (h refl)
sprout_some ring left box (x ∷ xs) h = refl

-- the whole tree
module _ (ring : ℕ → Float) (left : ℕ) (box : Rect) (xs : List ℕ) (some : 0 < length xs) where
  crop_whole : crop_of (sprout ring left box xs) ≡ crop_of (grown ring left box xs)
  crop_whole = ap crop_of (sprout_some ring left box xs (λ e. omega arith))

  pub tree_stood : {rest : List ℕ} {n size : ℕ} {a b : List ℕ} → Stood (crop_of (sprout ring left box xs)) rest n size a b → Rooted (grown ring left box xs) rest n a b
  unfolding crop_of
  tree_stood {rest} {n} {size} {a} {b} s =
      let g = subst (λ (c : Crop). Stood c rest n size a b) crop_whole s in
      record { counted = g.counted; ordered = g.ordered; recorded = g.recorded; fits = g.fits }

  pub tree_full : (rest : List ℕ) → length rest < 6 * (crop_of (sprout ring left box xs)).count → length rest < 6 * nodes (grown ring left box xs)
  unfolding crop_of
  tree_full rest h = subst (λ (c : Crop). length rest < 6 * c.count) crop_whole h

pub full_at_once : (ring : ℕ → Float) (left : ℕ) (box : Rect) (xs rest a b : List ℕ) → (length xs ≡ 0 → ⊥) → length rest < 6
    → Grew (crop_of (sprout ring left box xs)) rest None a b
unfolding crop_of
full_at_once ring left box xs rest a b h l =
    same_tree (sprout_some ring left box xs h) (full (omega (arith, nodes_some ring left box xs)))

pub leaf_grew : (xs rest rest' : List ℕ) (size : ℕ) → 6 ≤ length rest → size ≡ length (own_bytes xs)
    → rest' ≡ length xs ∷ 0 ∷ 0 ∷ 0 ∷ 0 ∷ (size + 1) ∷ drop 6 rest → Grew (crop_of (leaf xs)) rest (Some (1, size + 1)) xs rest'
unfolding crop_of nodes packed in_order records
leaf_grew xs rest rest' size h s r =
    let e : size + 1 ≡ length (own_bytes xs ++ (0 ∷ [])) = simp length-append (omega arith) in
    grew (record { counted = refl; sized = e; ordered = refl; recorded = rw e at r; fits = h })

-- ---- one behind the other
module _ (c d : Crop) (rest p rest₁ : List ℕ) (k size : ℕ) (long : length c.kept ≡ 6 * c.count) (s : Stood c rest k size p rest₁) where
  used : k * 6 ≡ 6 * c.count
  used = omega (arith, s.counted)

  pub used_fits : k * 6 ≤ length rest
  used_fits = omega (arith, used, s.fits)

  front : take (k * 6) rest₁ ≡ c.kept
  front = rw s.recorded (take_at c.kept (drop (6 * c.count) rest) (k * 6) (long ∙ sym used))

  back : drop (k * 6) rest₁ ≡ drop (6 * c.count) rest
  back = rw s.recorded (drop_at c.kept (drop (6 * c.count) rest) (k * 6) (long ∙ sym used))

  behind : take (length rest₁ - k * 6) (drop (k * 6) rest₁) ≡ drop (6 * c.count) rest
  behind = part_end rest₁ (k * 6) ∙ back

  pub left_over : length (take (length rest₁ - k * 6) (drop (k * 6) rest₁)) ≡ length rest - 6 * c.count
  left_over = ap length behind ∙ length-drop (6 * c.count) rest

  pub beside_full : length (take (length rest₁ - k * 6) (drop (k * 6) rest₁)) < 6 * d.count → length rest < 6 * (beside c d).count
  unfolding beside
  beside_full h = omega (arith, left_over, s.fits)

  module _ (l y rest₂ : List ℕ) (n k₂ size₂ len : ℕ) (h : n ≤ length l) (e : length p ≡ length (take n l)) (i : len ≡ length (encode size))
      (f : length rest₁ ≡ length rest)
      (s₂ : Stood d (take (length rest₁ - k * 6) (drop (k * 6) rest₁)) k₂ size₂ y rest₂) where
    pub beside_stood :
        Stood (beside c d) rest (k + k₂) (len + size + size₂) (put_mid n (length (p ++ drop n l) - n) (p ++ drop n l) y) (put_mid (k * 6) (length rest₁ - k * 6) rest₁ rest₂)
    unfolding beside
    beside_stood =
        record {
          counted = omega (arith, s.counted, s₂.counted);
          sized = omega (arith, s.sized, s₂.sized, i, ap (λ (z : ℕ). length (encode z)) s.sized);
          ordered = put_behind l p n h e y ∙ ap₂ (λ (a b : List ℕ). a ++ b) s.ordered s₂.ordered;
          recorded =
              put_end rest₁ rest₂ (k * 6) (omega (arith, used_fits))
              ∙ ap₂ (λ (a b : List ℕ). a ++ b) front (s₂.recorded ∙ ap (λ (z : List ℕ). d.kept ++ drop (6 * d.count) z) behind)
              ∙ ap (λ (z : List ℕ). c.kept ++ (d.kept ++ z)) (drop-drop (6 * d.count) (6 * c.count) rest ∙ ap (λ (z : ℕ). drop z rest) together)
              ∙ sym (append_assoc c.kept d.kept _);
          fits = omega (arith, s.fits, s₂.fits, left_over);
        }
      where
        together : 6 * c.count + 6 * d.count ≡ 6 * (c.count + d.count)
        together = omega arith

-- ---- the quadrants
module _ (ring : ℕ → Float) (left : ℕ) (box : Rect) (s : Shares) where
  pub shares_more : (q : ℕ) → q ≤ 4 → (q ≡ 4 → ⊥) → shares_from s q ≡ share_of s q + shares_from s (q + 1)
  unfolding shares_from shares_n
  shares_more q h d = let e : 4 - q ≡ suc (4 - (q + 1)) = omega arith in rw e

  pub shares_done : (q : ℕ) → q ≡ 4 → shares_from s q ≡ 0
  unfolding shares_from shares_n
  shares_done q e = rw e

  pub crop_done : (q : ℕ) (run : List ℕ) → q ≡ 4 → crop_from ring left box s q run ≡ no_crop
  unfolding crop_from crop_n
  crop_done q run e = rw e

  pub crop_more : (q : ℕ) (run : List ℕ) → q ≤ 4 → (q ≡ 4 → ⊥)
      → crop_from ring left box s q run
      ≡ beside (crop_of (sprout ring left (quad_bounds box q) (take (share_of s q) run))) (crop_from ring left box s (q + 1) (drop (share_of s q) run))
  unfolding crop_from crop_n
  crop_more q run h d = let e : 4 - q ≡ suc (4 - (q + 1)) = omega arith in rw e

  -- a quadrant whose segments stand at the front
  pub step : (n q : ℕ) (g rest : List ℕ) → share_of s q ≡ length g
      → crop_n ring left box s (suc n) q (g ++ rest) ≡ beside (crop_of (sprout ring left (quad_bounds box q) g)) (crop_n ring left box s n (q + 1) rest)
  unfolding crop_n
  step n q g rest e = rw (take_at g rest (share_of s q) (sym e), drop_at g rest (share_of s q) (sym e))

  pub last : (q : ℕ) (g : List ℕ) → share_of s q ≡ length g → crop_n ring left box s 1 q g ≡ beside (crop_of (sprout ring left (quad_bounds box q) g)) no_crop
  unfolding crop_n
  last q g e = ap (λ (z : List ℕ). beside (crop_of (sprout ring left (quad_bounds box q) z)) no_crop) (take_all (share_of s q) g (omega arith))
