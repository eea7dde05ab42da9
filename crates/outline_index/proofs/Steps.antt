-- One ring's step, by what the two builds do in what is left of the rooms. Assumes nothing.
use Rattle.std.specs.Prelude.{Ok, Err, Some, None}
use Prim.Native.Nat.{ℕ, ◌+◌, ◌-◌, ◌*◌}
use mathlib.Core.Path.{◌≡◌, refl, sym, ap, ap₂, ◌∙◌}
use mathlib.Core.List.{List, [], ◌++◌}
use mathlib.Core.Bool.{Bool, true, false, cond, ◌&&◌}
use native.Mathlib.Omega.{arith}
use lib.ListN.{length, take, drop, replicate, length-drop}
use lib.Dec.{leb}
use borrow.Author.Tests.{le-leb}
use borrow.Rule.Slice.PartMut.{put_mid}
use lib.Ieee.{Float}
use Rattle.answers.specs.declared.Refusal.{Refusal}
use Rattle.answers.specs.declared.Refusal.TheVariants.{NoRoom}
use Rattle.room.specs.Room.{pad}
use Rattle.rings.specs.Checks.{Checked}
use Rattle.rings.specs.Ring.{segments}
use Rattle.stripes_count.specs.Count.{stripe_count}
use Rattle.stripes_index.specs.Index.{least_y, height_y, list_of, part_of}
use Rattle.stripes_index.proofs.Pairs.{pairs_length}
use Rattle.stripes_build.specs.Build.{StripesBuilt}
use Rattle.stripes_build.specs.Build as striping
use Rattle.stripes_build.proofs.Building.{built_sound, from_reached}
use Rattle.tree.specs.Tree.{work_numbers}
use Rattle.tree_build.specs.Build.{TreeBuilt}
use Rattle.tree_build.specs.Build as packing
use Rattle.tree_build.proofs.Building.{built_sound as built-sound-tree, from_reached as from-reached-tree}
use Rattle.outline_index.specs.declared.BuildOptions.{BuildOptions}
use Rattle.outline_index.specs.declared.Places.{Places}
use Rattle.outline_index.specs.declared.Gain.{Gain}
use Rattle.outline_index.specs.Inner.Step.{Gained, ZeroFrom, behind, gained, stripes_fit, stripes_answer, stripes_put, tree_fits, tree_answer, tree_put, gain_in, Stepped}
use Rattle.outline_index.specs.Parts.{has_stripes, has_tree, ring_stripes, ring_list, stripes_part, list_part, bytes_part, least_in, height_in, stripes_in, entries_in, fullest_in, few_stripes, enough_work}
use Rattle.outline_index.proofs.Pools.{rest_is, rest_back, behind_rest, behind_none, rest_zero, leb_shift}

-- an answer and two rooms of which the rest was lent
module _ {A : Type 0} (a b : ℕ) (S L : List ℕ) where
  abbrev pub put : A × List ℕ × List ℕ → A × List ℕ × List ℕ
  put o = (o.0, take a S ++ o.1, take b L ++ o.2)

module _ (options : BuildOptions) (ring : ℕ → Float) (points : ℕ) (at : Places) where
  module _ (S L : List ℕ) (zs : ZeroFrom at.stripes S) (zl : ZeroFrom at.list L) where
    pub stripes_none : has_stripes options (segments points) ≡ false → stripes_put options ring points at S L ≡ (Ok None, S, L)
    unfolding stripes_put stripes_part list_part few_stripes
    stripes_none e =
        rw (e, le-leb (at.stripes + 0) (length S) (omega arith), le-leb (at.list + 0) (length L) (omega arith))
        (ap₂ (λ (s l : List ℕ). (Ok None, s, l)) (behind_none at.stripes S zs) (behind_none at.list L zl))

    -- the rest of the rooms is roomy just where the whole is
    rest_fits : (striping.roomy ring (segments points) (drop at.stripes S) (drop at.list L))
        ≡ (leb (stripe_count ring (segments points)) 65536 && leb (at.stripes + length (ring_stripes ring (segments points))) (length S)
        && leb (at.list + length (ring_list ring (segments points))) (length L))
    rest_fits =
        let m = stripe_count ring (segments points) in
        ap₂ (λ (x y : Bool). leb m 65536 && x && y)
        (ap (leb (m * 2)) (length-drop at.stripes S)
        ∙ leb_shift at.stripes (m * 2) (length S) zs.0
        ∙ ap (λ (x : ℕ). leb (at.stripes + x) (length S)) (sym (pairs_length _ _ m)))
        (ap (leb (length (ring_list ring (segments points)))) (length-drop at.list L)
        ∙ leb_shift at.list (length (ring_list ring (segments points))) (length L) zl.0)

    stripes_rest : has_stripes options (segments points) ≡ true
        → stripes_put options ring points at S L ≡ put at.stripes at.list S L (striping.indexed ring (segments points) (drop at.stripes S) (drop at.list L))
    unfolding stripes_put stripes_part list_part few_stripes striping.indexed
    stripes_rest e = rw (e, ← rest_fits) (go (striping.roomy ring (segments points) (drop at.stripes S) (drop at.list L)))
      where
        n : ℕ
        n = segments points

        go : (t : Bool)
            → cond t (
              Ok (Some (record { least = least_y ring n; height = height_y ring n; stats = striping.stats_of ring n })),
              behind at.stripes S (ring_stripes ring n),
              behind at.list L (ring_list ring n),
            )
            (Err NoRoom, S, L)
            ≡ put at.stripes at.list S L
            (cond t (
              Ok (Some (record { least = least_y ring n; height = height_y ring n; stats = striping.stats_of ring n })),
              pad (length (drop at.stripes S)) (ring_stripes ring n),
              pad (length (drop at.list L)) (ring_list ring n),
            )
            (striping.zeroed (Err NoRoom) (drop at.stripes S) (drop at.list L)))
        go true =
            ap₂ (λ (s l : List ℕ). (Ok (Some (record { least = least_y ring n; height = height_y ring n; stats = striping.stats_of ring n })), s, l))
            (sym (behind_rest at.stripes S (ring_stripes ring n) zs.0)) (sym (behind_rest at.list L (ring_list ring n) zl.0))
        go false = ap₂ (λ (s l : List ℕ). (Err NoRoom, s, l)) (sym (rest_zero at.stripes S zs)) (sym (rest_zero at.list L zl))

    -- built in the rests, which come back
    pub stripes_put_lem : (checked : Checked) → has_stripes options (segments points) ≡ true → checked ≡ Ok tt → (r : StripesBuilt) (s l : List ℕ)
        → striping.stripes_built_by checked ring points 0 (take (length S - at.stripes) (drop at.stripes S)) (take (length L - at.list) (drop at.list L)) ≡ (r, s, l)
        → stripes_put options ring points at S L ≡ (r, put_mid at.stripes (length S - at.stripes) S s, put_mid at.list (length L - at.list) L l)
    stripes_put_lem checked has sound r s l e =
        stripes_rest has
        ∙ ap (put at.stripes at.list S L)
        (sym (built_sound checked ring points 0 (drop at.stripes S) (drop at.list L) sound
        ∙ from_reached ring (segments points) 0 (drop at.stripes S) (drop at.list L) (omega arith))
        ∙ ap₂ (striping.stripes_built_by checked ring points 0) (sym (rest_is at.stripes S)) (sym (rest_is at.list L))
        ∙ e)
        ∙ ap₂ (λ (x y : List ℕ). (r, x, y)) (sym (rest_back at.stripes S s zs.0)) (sym (rest_back at.list L l zl.0))

  module _ (B W : List ℕ) (zb : ZeroFrom at.bytes B) (zw : W ≡ replicate (length W) 0) where
    pub tree_none : has_tree options (segments points) ≡ false → tree_put options ring points at B W ≡ (Ok None, B, W)
    unfolding tree_put bytes_part enough_work
    tree_none e =
        rw (e, le-leb (at.bytes + 0) (length B) (omega arith)) (ap (λ (b : List ℕ). (Ok None, b, W)) (behind_none at.bytes B zb))

    tree_fits_lem : packing.roomy ring points (drop at.bytes B) W
        ≡ (leb (work_numbers ring points) (length W) && leb (at.bytes + length (packing.tree_bytes ring points)) (length B))
    tree_fits_lem =
        ap (λ (x : Bool). leb (work_numbers ring points) (length W) && x)
        (ap (leb (length (packing.tree_bytes ring points))) (length-drop at.bytes B)
        ∙ leb_shift at.bytes (length (packing.tree_bytes ring points)) (length B) zb.0)

    -- an answer and two rooms, the first of which lent its rest
    abbrev put_one : packing.Outcome → packing.Outcome
    put_one o = (o.0, take at.bytes B ++ o.1, o.2)

    tree_rest : has_tree options (segments points) ≡ true → tree_put options ring points at B W ≡ put_one (packing.packed_in ring points (drop at.bytes B) W)
    unfolding tree_put bytes_part enough_work packing.packed_in
    tree_rest e = rw (e, ← tree_fits_lem) (go (packing.roomy ring points (drop at.bytes B) W))
      where
        bytes : List ℕ
        bytes = packing.tree_bytes ring points

        go : (t : Bool)
            → cond t (Ok (Some (length bytes)), behind at.bytes B bytes, W) (Err NoRoom, B, W)
            ≡ put_one
            (cond t (Ok (Some (length bytes)), pad (length (drop at.bytes B)) bytes, replicate (length W) 0)
            (packing.zeroed (Err NoRoom) (drop at.bytes B) W))
        go true = ap₂ (λ (b w : List ℕ). (Ok (Some (length bytes)), b, w)) (sym (behind_rest at.bytes B bytes zb.0)) zw
        go false = ap₂ (λ (b w : List ℕ). (Err NoRoom, b, w)) (sym (rest_zero at.bytes B zb)) zw

    pub tree_put_lem : (checked : Checked) → has_tree options (segments points) ≡ true → checked ≡ Ok tt → (r : TreeBuilt) (b w : List ℕ)
        → packing.tree_built_by checked ring points 0 (take (length B - at.bytes) (drop at.bytes B)) W ≡ (r, b, w)
        → tree_put options ring points at B W ≡ (r, put_mid at.bytes (length B - at.bytes) B b, w)
    tree_put_lem checked has sound r b w e =
        tree_rest has
        ∙ ap put_one (sym (built_reached (drop at.bytes B)) ∙ ap (λ (x : List ℕ). packing.tree_built_by checked ring points 0 x W) (sym (rest_is at.bytes B)) ∙ e)
        ∙ ap (λ (x : List ℕ). (r, x, w)) (sym (rest_back at.bytes B b zb.0))
      where
        built_reached : (x : List ℕ) → packing.tree_built_by checked ring points 0 x W ≡ packing.packed_in ring points x W
        built_reached x = built-sound-tree ring points 0 x W checked sound ∙ from-reached-tree ring points 0 x W (omega arith)

  -- two numbers a stripe
  pub stripes_length : length (stripes_part options ring points) ≡ 2 * stripes_in options ring points
  unfolding stripes_part stripes_in
  stripes_length = go (has_stripes options (segments points)) refl
    where
      go : (h : Bool) → has_stripes options (segments points) ≡ h
          → length (cond (has_stripes options (segments points)) (ring_stripes ring (segments points)) []) ≡ 2 * cond (has_stripes options (segments points)) (stripe_count ring (segments points)) 0
      go true p = rw p (omega (arith, pairs_length (λ s. length (list_of (striping.crosses_in ring (segments points)) (segments points) s)) (λ s. length (part_of (striping.crosses_in ring (segments points)) (segments points) s)) (stripe_count ring (segments points))))
      go false p = rw p (omega arith)

  -- what the two answers come to
  gains : gained (stripes_answer options ring points) (tree_answer options ring points) ≡ Some (gain_in options ring points)
  unfolding list_part bytes_part least_in height_in stripes_in entries_in fullest_in
  gains = go (has_stripes options (segments points)) (has_tree options (segments points)) refl refl
    where
      go : (h t : Bool) → has_stripes options (segments points) ≡ h → has_tree options (segments points) ≡ t
          → gained (stripes_answer options ring points) (tree_answer options ring points) ≡ Some (gain_in options ring points)
      go true true p q = rw (p, q)
      go true false p q = rw (p, q)
      go false true p q = rw (p, q)
      go false false p q = rw (p, q)

  no_tree : gained (stripes_answer options ring points) (Err NoRoom) ≡ None
  no_tree = go (has_stripes options (segments points)) refl
    where
      go : (h : Bool) → has_stripes options (segments points) ≡ h → gained (stripes_answer options ring points) (Err NoRoom) ≡ None
      go true p = rw p
      go false p = rw p

  module _ (S L B W : List ℕ) (r₁ : StripesBuilt) (s l : List ℕ) (r₂ : TreeBuilt) (b w : List ℕ) (r : Gained) where
    pub stepped : stripes_put options ring points at S L ≡ (r₁, s, l) → tree_put options ring points at B W ≡ (r₂, b, w) → r ≡ gained r₁ r₂
        → Stepped options ring points (stripes_fit options ring points at S L && tree_fits options ring points at B W) at S L B W r s l b w
    unfolding stripes_put tree_put Stepped
    stepped e₁ e₂ e = go (stripes_fit options ring points at S L) (tree_fits options ring points at B W) e₁ e₂
      where
        go : (x y : Bool)
            → ◌≡◌ {A = striping.Outcome}
            (cond x (
              stripes_answer options ring points,
              behind at.stripes S (stripes_part options ring points),
              behind at.list L (list_part options ring points),
            )
            (Err NoRoom, S, L))
            (r₁, s, l)
            → ◌≡◌ {A = packing.Outcome}
            (cond y (tree_answer options ring points, behind at.bytes B (bytes_part options ring points), W) (Err NoRoom, B, W))
            (r₂, b, w)
            → Stepped options ring points (x && y) at S L B W r s l b w
        go true true p q = (
          e ∙ sym (ap₂ (λ (o : striping.Outcome) (u : packing.Outcome). gained o.0 u.0) p q) ∙ gains,
          sym (ap (λ (o : striping.Outcome). o.1) p),
          sym (ap (λ (o : striping.Outcome). o.2) p),
          sym (ap (λ (u : packing.Outcome). u.1) q),
          sym (ap (λ (u : packing.Outcome). u.2) q),
        )
        go true false p q = e ∙ sym (ap₂ (λ (o : striping.Outcome) (u : packing.Outcome). gained o.0 u.0) p q) ∙ no_tree
        go false y p q = e ∙ sym (ap (λ (o : striping.Outcome). gained o.0 r₂) p)

  -- a build that refuses says that its room is short
  stripes_sure : (why : Refusal) → stripes_answer options ring points ≡ Err why → ⊥
  stripes_sure why = go (has_stripes options (segments points)) refl
    where
      go : (h : Bool) → has_stripes options (segments points) ≡ h → stripes_answer options ring points ≡ Err why → ⊥
      go true p = rw p (λ q. cc)
      go false p = rw p (λ q. cc)

  tree_sure : (why : Refusal) → tree_answer options ring points ≡ Err why → ⊥
  tree_sure why = go (has_tree options (segments points)) refl
    where
      go : (h : Bool) → has_tree options (segments points) ≡ h → tree_answer options ring points ≡ Err why → ⊥
      go true p = rw p (λ q. cc)
      go false p = rw p (λ q. cc)

  module _ (S L B W : List ℕ) (why : Refusal) (s l b w : List ℕ) (r : Gained) where
    pub stripes_short : stripes_put options ring points at S L ≡ (Err why, s, l) → r ≡ None
        → Stepped options ring points (stripes_fit options ring points at S L && tree_fits options ring points at B W) at S L B W r s l b w
    unfolding stripes_put Stepped
    stripes_short e n = go (stripes_fit options ring points at S L) e
      where
        go : (x : Bool)
            → ◌≡◌ {A = striping.Outcome}
            (cond x (
              stripes_answer options ring points,
              behind at.stripes S (stripes_part options ring points),
              behind at.list L (list_part options ring points),
            )
            (Err NoRoom, S, L))
            (Err why, s, l)
            → Stepped options ring points (x && tree_fits options ring points at B W) at S L B W r s l b w
        go true p = absurd (stripes_sure why (ap (λ (o : striping.Outcome). o.0) p))
        go false p = n

    pub tree_short : tree_put options ring points at B W ≡ (Err why, b, w) → r ≡ None
        → Stepped options ring points (stripes_fit options ring points at S L && tree_fits options ring points at B W) at S L B W r s l b w
    unfolding tree_put Stepped
    tree_short e n = go (stripes_fit options ring points at S L) (tree_fits options ring points at B W) e
      where
        go : (x y : Bool)
            → ◌≡◌ {A = packing.Outcome}
            (cond y (tree_answer options ring points, behind at.bytes B (bytes_part options ring points), W) (Err NoRoom, B, W))
            (Err why, b, w)
            → Stepped options ring points (x && y) at S L B W r s l b w
        go x true p = absurd (tree_sure why (ap (λ (u : packing.Outcome). u.0) p))
        go true false p = n
        go false false p = n

-- ---- what the crate above learns from a step
module _ (options : BuildOptions) (ring : ℕ → Float) (points : ℕ) (x : Bool) (at : Places) (S L B W : List ℕ) (r : Gained) (s l b w : List ℕ) where
  pub step_done : (g : Gain) → Stepped options ring points x at S L B W r s l b w → r ≡ Some g
      → (x ≡ true) × (g ≡ gain_in options ring points) × (s ≡ behind at.stripes S (stripes_part options ring points))
      × (l ≡ behind at.list L (list_part options ring points)) × (b ≡ behind at.bytes B (bytes_part options ring points)) × (w ≡ W)
  unfolding Stepped
  step_done g e h = go x e
    where
      go : (y : Bool) → Stepped options ring points y at S L B W r s l b w
          → (y ≡ true) × (g ≡ gain_in options ring points) × (s ≡ behind at.stripes S (stripes_part options ring points))
          × (l ≡ behind at.list L (list_part options ring points)) × (b ≡ behind at.bytes B (bytes_part options ring points)) × (w ≡ W)
      go true p = (refl, same (gain_in options ring points) p.0, p.1, p.2, p.3, p.4)
        where
          same : (g' : Gain) → r ≡ Some g' → g ≡ g'
          same g' q = cc
      go false p = absurd (never p)
        where
          never : r ≡ None → ⊥
          never q = let z : ◌≡◌ {A = ℕ} 0 1 = cc in omega arith

  pub step_short : Stepped options ring points x at S L B W r s l b w → r ≡ None → x ≡ false
  unfolding Stepped
  step_short e h = go x e
    where
      go : (y : Bool) → Stepped options ring points y at S L B W r s l b w → y ≡ false
      go true p = absurd (never (gain_in options ring points) p.0)
        where
          never : (g : Gain) → r ≡ Some g → ⊥
          never g q = let z : ◌≡◌ {A = ℕ} 0 1 = cc in omega arith
      go false p = refl
