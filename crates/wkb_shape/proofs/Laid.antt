-- How points and rings lie in the bytes: where reading them ends, and what it gives. Assumes nothing.
use Rattle.std.specs.Prelude.{Ok, Err}
use Prim.Native.Nat.{ℕ, zero, suc, ◌+◌, ◌*◌, ◌-◌, ◌/◌, ◌≤◌, ◌<◌}
use mathlib.Core.Path.{◌≡◌, refl, sym, ap, ◌∙◌}
use mathlib.Core.List.{List, [], ◌∷◌}
use mathlib.Core.Logic.{⊎_elim}
use native.Mathlib.Omega.{arith}
use native.Mathlib.Nat.{sub-zero}
use lib.ListN.{length}
use Rattle.room.proofs.Cases.{lt_or}
use Rattle.wkb_fields.specs.declared.ByteOrder.{ByteOrder}
use Rattle.wkb_fields.specs.Fields.{field_of}
use Rattle.wkb_shape.specs.declared.WkbRefusal.{WkbRefusal}
use Rattle.wkb_shape.specs.declared.WkbRefusal.TheVariants.{Ends}
use Rattle.wkb_shape.specs.Inner.Laid.{Walked}
use Rattle.wkb_shape.specs.Wkb.{got, stop, then, field, point, points, ring, rings}
use Rattle.wkb_shape.specs.Inner.Laid.{Walked, end_of, value_of, points_of, count_of, next_of, rings_of}
use Rattle.wkb_shape.proofs.Reading.{then_go, then_stop, end_both, field_fits, field_cut, field_read, field_missed}

module _ (bytes : List ℕ) (order : ByteOrder) where
  point_fits : (at : ℕ) → at + 16 ≤ length bytes → point bytes order at ≡ got (field_of order 8 bytes at, field_of order 8 bytes (at + 8)) (at + 16)
  unfolding point then
  point_fits at h =
      let e : at + 8 + 8 ≡ at + 16 = omega arith in
      rw (field_fits bytes order 8 at (omega arith), field_fits bytes order 8 (at + 8) (omega arith), e)

  -- cut in its first double, or in its second
  point_cut : (at : ℕ) → length bytes < at + 8 → point bytes order at ≡ stop (Ends at)
  unfolding point then
  point_cut at h = rw (field_cut bytes order 8 at h)

  point_half : (at : ℕ) → at + 8 ≤ length bytes → length bytes < at + 16 → point bytes order at ≡ stop (Ends (at + 8))
  unfolding point then
  point_half at l h = rw (field_fits bytes order 8 at l, field_cut bytes order 8 (at + 8) (omega arith))

  pub points_fit : (n at : ℕ) → at + 16 * n ≤ length bytes → points bytes order n at ≡ got (points_of bytes order n at) (at + 16 * n)
  unfolding points points_of then
  points_fit zero at h = let e : at ≡ at + 0 = omega arith in ap (got []) e
  points_fit (suc n) at h =
      let e : at + 16 + 16 * n ≡ at + 16 * suc n = omega arith in
      rw (point_fits at (omega arith), points_fit n (at + 16) (omega arith), e)

  -- the first double that is not all there
  pub points_cut : (n at : ℕ) → at ≤ length bytes → (length bytes - at) / 8 < 2 * n
      → points bytes order n at ≡ stop (Ends (at + 8 * ((length bytes - at) / 8)))
  unfolding points then
  points_cut zero at l h = absurd (omega arith)
  points_cut (suc n) at l h =
      ⊎_elim
      (λ (a : length bytes < at + 8).
      let e : at ≡ at + 8 * ((length bytes - at) / 8) = omega arith in
      rw (point_cut at a) (ap (λ (p : ℕ). stop (Ends p)) e))
      (λ (b : at + 8 ≤ length bytes).
      ⊎_elim
      (λ (a : length bytes < at + 16).
      let e : at + 8 ≡ at + 8 * ((length bytes - at) / 8) = omega arith in
      rw (point_half at b a) (ap (λ (p : ℕ). stop (Ends p)) e))
      (λ (a : at + 16 ≤ length bytes).
      let e : at + 16 + 8 * ((length bytes - (at + 16)) / 8) ≡ at + 8 * ((length bytes - at) / 8) = omega arith in
      rw (point_fits at a, points_cut n (at + 16) a (omega arith)) (ap (λ (p : ℕ). stop (Ends p)) e))
      (lt_or (length bytes) (at + 16)))
      (lt_or (length bytes) (at + 8))

  pub points_length : (n at : ℕ) → length (points_of bytes order n at) ≡ n
  unfolding points_of
  points_length zero at = refl
  points_length (suc n) at = ap suc (points_length n (at + 16))

  pub rings_length : (n at : ℕ) → length (rings_of bytes order n at) ≡ n
  unfolding rings_of
  rings_length zero at = refl
  rings_length (suc n) at = ap suc (rings_length n (next_of bytes order at))

  -- one ring
  ring_cut : (at : ℕ) → length bytes < at + 4 → ring bytes order at ≡ stop (Ends at)
  unfolding ring then
  ring_cut at h = rw (field_cut bytes order 4 at h)

  ring_points : (at : ℕ) → at + 4 ≤ length bytes → ring bytes order at ≡ points bytes order (count_of bytes order at) (at + 4)
  unfolding ring then count_of
  ring_points at h = rw (field_fits bytes order 4 at h)

  -- where reading rings ends
  pub rings_cut : (n at : ℕ) → length bytes < at + 4 → end_of (rings bytes order (suc n) at) ≡ Err (Ends at)
  unfolding rings then end_of
  rings_cut n at h = rw (ring_cut at h)

  pub rings_stop : (n at : ℕ) (why : WkbRefusal) → at + 4 ≤ length bytes
      → end_of (points bytes order (count_of bytes order at) (at + 4)) ≡ Err why → end_of (rings bytes order (suc n) at) ≡ Err why
  unfolding rings end_of
  rings_stop n at why h e = ap end_of (then_stop (ring bytes order at) _ why (ap end_of (ring_points at h) ∙ e))

  pub rings_on : (n at p : ℕ) → at + 4 ≤ length bytes → end_of (points bytes order (count_of bytes order at) (at + 4)) ≡ Ok p
      → end_of (rings bytes order (suc n) at) ≡ end_of (rings bytes order n p)
  unfolding rings
  rings_on n at p h e = end_both (ring bytes order at) (rings bytes order n) (λ r rs. r ∷ rs) p (ap end_of (ring_points at h) ∙ e)

  -- a reading of points that is not stopped is within the bytes
  pub points_within : (n at p : ℕ) → at ≤ length bytes → end_of (points bytes order n at) ≡ Ok p → (at + 16 * n ≤ length bytes) × (p ≡ at + 16 * n)
  unfolding end_of
  points_within n at p l e =
      ⊎_elim
      (λ (no : (length bytes - at) / 8 < 2 * n).
      let s = sym (ap end_of (points_cut n at l no)) ∙ e in let z : ◌≡◌ {A = ℕ} 0 1 = cc in absurd (omega arith))
      (λ (there : 2 * n ≤ (length bytes - at) / 8).
      let fits : at + 16 * n ≤ length bytes = omega arith in
      let s = sym (ap end_of (points_fit n at fits)) ∙ e in let t : p ≡ at + 16 * n = cc in (fits, t))
      (lt_or ((length bytes - at) / 8) (2 * n))

  -- a reading of rings that ends at q, taken apart at its first ring
  pub record Begun (n at q : ℕ) : Type 0 where
    pub counted : at + 4 ≤ length bytes
    pub within : next_of bytes order at ≤ length bytes
    pub later : end_of (rings bytes order n (next_of bytes order at)) ≡ Ok q
    pub first : ring bytes order at ≡ got (points_of bytes order (count_of bytes order at) (at + 4)) (next_of bytes order at)

  pub begun : (n at q : ℕ) → end_of (rings bytes order (suc n) at) ≡ Ok q → Begun n at q
  unfolding next_of
  begun n at q e =
      ⊎_elim
      (λ (no : length bytes < at + 4). let s = sym (rings_cut n at no) ∙ e in let z : ◌≡◌ {A = ℕ} 0 1 = cc in absurd (omega arith))
      (λ (h : at + 4 ≤ length bytes). by_points h (end_of (points bytes order (count_of bytes order at) (at + 4))) refl)
      (lt_or (length bytes) (at + 4))
    where
      by_points : at + 4 ≤ length bytes → (w : Walked) → end_of (points bytes order (count_of bytes order at) (at + 4)) ≡ w → Begun n at q
      by_points h (Err why) s = let t = sym (rings_stop n at why h s) ∙ e in let z : ◌≡◌ {A = ℕ} 0 1 = cc in absurd (omega arith)
      by_points h (Ok p) s =
          let in_bytes = points_within (count_of bytes order at) (at + 4) p h s in
          record {
            counted = h;
            within = in_bytes.0;
            later = ap (λ (m : ℕ). end_of (rings bytes order n m)) (sym in_bytes.1) ∙ sym (rings_on n at p h s) ∙ e;
            first = ring_points at h ∙ points_fit (count_of bytes order at) (at + 4) in_bytes.0;
          }

  -- what is read where reading is not stopped
  pub rings_laid : (n at q : ℕ) → end_of (rings bytes order n at) ≡ Ok q → rings bytes order n at ≡ got (rings_of bytes order n at) q
  unfolding rings rings_of end_of
  rings_laid zero at q e = let s : at ≡ q = cc in ap (got []) s
  rings_laid (suc n) at q e =
      let b = begun n at q e in
      then_go (ring bytes order at) _ _ _ b.first
      ∙ then_go (rings bytes order n (next_of bytes order at)) _ _ _ (rings_laid n (next_of bytes order at) q b.later)

  -- the invariant of a pass over n rings: from ring k on, which starts at a place, it ends as is told of it from the first
  pub record Passing (told : Walked) (n at k : ℕ) : Type 0 where
    pub within : k ≤ n
    pub inside : at ≤ length bytes
    pub same : end_of (rings bytes order (n - k) at) ≡ told

  pub passing : (n start : ℕ) → start ≤ length bytes → Passing (end_of (rings bytes order n start)) n start 0
  passing n start h = record { within = omega arith; inside = h; same = rw sub-zero }

  module _ (told : Walked) (n at k : ℕ) (i : Passing told n at k) (h : k < n) where
    one_more : n - k ≡ suc (n - (k + 1))
    one_more = omega arith

    pub pass_cut : (why : WkbRefusal) → value_of (field bytes order 4 at) ≡ Err why → Err why ≡ told
    pass_cut why l =
        let m = field_missed bytes order 4 at why l in
        ap Err m.1 ∙ sym (rings_cut (n - (k + 1)) at m.0) ∙ ap (λ (m : ℕ). end_of (rings bytes order m at)) (sym one_more) ∙ i.same

    module _ (m : ℕ) (l : value_of (field bytes order 4 at) ≡ Ok m) where
      pub pass_in : at + 4 ≤ length bytes
      pass_in = (field_read bytes order 4 at m l).0

      counted : count_of bytes order at ≡ m
      unfolding count_of
      counted = (field_read bytes order 4 at m l).1

      pub pass_stop : (why : WkbRefusal) → end_of (points bytes order m (at + 4)) ≡ Err why → Err why ≡ told
      pass_stop why e =
          sym (rings_stop (n - (k + 1)) at why pass_in (ap (λ (j : ℕ). end_of (points bytes order j (at + 4))) counted ∙ e))
          ∙ ap (λ (j : ℕ). end_of (rings bytes order j at)) (sym one_more)
          ∙ i.same

      pub pass_on : (p : ℕ) → end_of (points bytes order m (at + 4)) ≡ Ok p → Passing told n p (k + 1)
      pass_on p e =
          let w = points_within m (at + 4) p pass_in e in
          record {
            within = omega arith;
            inside = omega (arith, w.0, w.1);
            same =
                sym (rings_on (n - (k + 1)) at p pass_in (ap (λ (j : ℕ). end_of (points bytes order j (at + 4))) counted ∙ e))
                ∙ ap (λ (j : ℕ). end_of (rings bytes order j at)) (sym one_more)
                ∙ i.same;
          }

  pub pass_done : (told : Walked) (n at k : ℕ) → Passing told n at k → n ≤ k → Ok at ≡ told
  unfolding rings end_of
  pass_done told n at k i h = let e : n - k ≡ 0 = omega arith in (rw e at i.same)
