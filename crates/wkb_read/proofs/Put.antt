-- Points and rings stored one after the other. Each loop's invariant says that what is left to write comes to what all of it comes to. Assumes nothing.
use Rattle.std.specs.Prelude.{Ok}
use Prim.Native.Nat.{ℕ, zero, suc, ◌+◌, ◌*◌, ◌-◌, ◌≤◌, ◌<◌}
use mathlib.Core.Path.{◌≡◌, refl, sym, ap, ap₂, ◌∙◌}
use mathlib.Core.List.{List, [], ◌∷◌}
use mathlib.Core.Bool.{Bool, true, false, cond, ◌&&◌}
use native.Mathlib.Omega.{arith}
use native.Mathlib.Nat.{sub-zero}
use lib.ListN.{length, set, length-append, length-set}
use lib.IntN.{ℤ}
use lib.Ieee.{Float}
use Rattle.rings.proofs.Checks.{both}
use Rattle.std.specs.List.{list_all, range_with_len}
use Rattle.room.specs.Room.{write}
use Rattle.room.proofs.Write.{write_length, write_append}
use Rattle.wkb_fields.specs.declared.ByteOrder.{ByteOrder}
use Rattle.wkb_fields.specs.Fields.{field_of}
use Rattle.wkb_shape.specs.Wkb.{Ring, Shape, rings}
use Rattle.wkb_shape.specs.Inner.Laid.{end_of, points_of, count_of, next_of, rings_of, Whole}
use Rattle.wkb_shape.proofs.Laid.{begun, points_length, rings_length}
use Rattle.wkb_read.specs.Stored.{stored_of, storable, all_storable, ring_coords, coords_of, sizes_of}
use Rattle.wkb_read.specs.Judged.{fault_at}
use Rattle.wkb_read.proofs.Walk.{Along, along, along_on, rings_here, rings_none}

pub ring_numbers : (scale : Float) (ps : Ring) → length (ring_coords scale ps) ≡ 2 * length ps
unfolding ring_coords
ring_numbers scale [] = refl
ring_numbers scale ((x, y) ∷ ps) = ap (λ (n : ℕ). suc (suc n)) (ring_numbers scale ps) ∙ omega arith

module _ (bytes : List ℕ) (order : ByteOrder) (scale : Float) where
  points_here : (n at i : ℕ) → i < n → points_of bytes order (n - i) at ≡ (field_of order 8 bytes at, field_of order 8 bytes (at + 8)) ∷ points_of bytes order (n - (i + 1)) (at + 16)
  unfolding points_of
  points_here n at i h = let e : n - i ≡ suc (n - (i + 1)) = omega arith in rw e

  points_none : (n at i : ℕ) → n ≤ i → points_of bytes order (n - i) at ≡ []
  unfolding points_of
  points_none n at i h = let e : n - i ≡ 0 = omega arith in rw e

  -- rule 12 over the points of a ring, asked point by point
  abbrev pub point_ok : ℕ → ℕ → Bool
  point_ok start i = storable scale (field_of order 8 bytes (start + 16 * i)) && storable scale (field_of order 8 bytes (start + 16 * i + 8))

  pub points_ok : (start n k at : ℕ) → at ≡ start + 16 * k → list_all (point_ok start) (range_with_len k n) ≡ all_storable scale (points_of bytes order n at)
  unfolding all_storable points_of
  points_ok start zero k at e = refl
  points_ok start (suc n) k at e = rw (← e, points_ok start n (k + 1) (at + 16) (omega arith))

  -- a ring's numbers
  pub record Putting (n start to : ℕ) (coords₀ : List ℤ) (at c i : ℕ) (coords : List ℤ) : Type 0 where
    pub within : i ≤ n
    pub inside : at + 16 * (n - i) ≤ length bytes
    pub room : c + 2 * (n - i) ≤ length coords
    pub long : length coords ≡ length coords₀
    pub ok : all_storable scale (points_of bytes order (n - i) at) ≡ true
    pub same : write coords c (ring_coords scale (points_of bytes order (n - i) at)) ≡ write coords₀ to (ring_coords scale (points_of bytes order n start))

  pub putting : (n start to : ℕ) (coords : List ℤ) → start + 16 * n ≤ length bytes → to + 2 * n ≤ length coords
      → all_storable scale (points_of bytes order n start) ≡ true → Putting n start to coords start to 0 coords
  putting n start to coords a b t =
      record { within = omega arith; inside = omega arith; room = omega arith; long = refl; ok = rw sub-zero t; same = rw sub-zero }

  module _ (n start to : ℕ) (coords₀ : List ℤ) (at c i : ℕ) (coords : List ℤ) (s : Putting n start to coords₀ at c i coords) (h : i < n) where
    oks : ((storable scale (field_of order 8 bytes at) && storable scale (field_of order 8 bytes (at + 8))) ≡ true)
        × (all_storable scale (points_of bytes order (n - (i + 1)) (at + 16)) ≡ true)
    unfolding all_storable
    oks =
        both (storable scale (field_of order 8 bytes at) && storable scale (field_of order 8 bytes (at + 8))) (all_storable scale (points_of bytes order (n - (i + 1)) (at + 16)))
        (sym (ap (all_storable scale) (points_here n at i h)) ∙ s.ok)

    pub x_ok : storable scale (field_of order 8 bytes at) ≡ true
    x_ok = (both (storable scale (field_of order 8 bytes at)) (storable scale (field_of order 8 bytes (at + 8))) oks.0).0

    pub y_ok : storable scale (field_of order 8 bytes (at + 8)) ≡ true
    y_ok = (both (storable scale (field_of order 8 bytes at)) (storable scale (field_of order 8 bytes (at + 8))) oks.0).1

    pub putting_on : Putting n start to coords₀ (at + 16) (c + 2) (i + 1)
        (set (set coords c (stored_of scale (field_of order 8 bytes at))) (c + 1) (stored_of scale (field_of order 8 bytes (at + 8))))
    unfolding write ring_coords
    putting_on =
        let x = stored_of scale (field_of order 8 bytes at) in
        let y = stored_of scale (field_of order 8 bytes (at + 8)) in
        let long = length-set (set coords c x) (c + 1) y ∙ length-set coords c x in
        let e : c + 1 + 1 ≡ c + 2 = omega arith in
        record {
          within = omega arith;
          inside = omega (arith, s.inside);
          room = omega (arith, s.room, long);
          long = long ∙ s.long;
          ok = oks.1;
          same = sym (ap (λ (ps : Ring). write coords c (ring_coords scale ps)) (points_here n at i h)
              ∙ ap (λ (m : ℕ). write (set (set coords c x) (c + 1) y) m (ring_coords scale (points_of bytes order (n - (i + 1)) (at + 16)))) e)
              ∙ s.same;
        }

  pub putting_done : (n start to : ℕ) (coords₀ : List ℤ) (at c i : ℕ) (coords : List ℤ) → Putting n start to coords₀ at c i coords → n ≤ i
      → coords ≡ write coords₀ to (ring_coords scale (points_of bytes order n start))
  unfolding write ring_coords
  putting_done n start to coords₀ at c i coords s h = sym (ap (λ (ps : Ring). write coords c (ring_coords scale ps)) (points_none n at i h)) ∙ s.same

  next_is : (at : ℕ) → next_of bytes order at ≡ at + 4 + 16 * count_of bytes order at
  unfolding next_of
  next_is at = refl

  -- how many numbers there are
  pub numbers_of : (n at q : ℕ) → end_of (rings bytes order n at) ≡ Ok q → q ≡ at + 4 * n + 8 * length (coords_of scale (rings_of bytes order n at))
  unfolding rings rings_of coords_of end_of
  numbers_of zero at q e = let s : at ≡ q = cc in omega arith
  numbers_of (suc n) at q e =
      let b = begun bytes order n at q e in
      let r = points_of bytes order (count_of bytes order at) (at + 4) in
      let rs = rings_of bytes order n (next_of bytes order at) in
      omega (
        arith,
        numbers_of n (next_of bytes order at) q b.later,
        length-append (ring_coords scale r) (coords_of scale rs),
        ring_numbers scale r,
        points_length bytes order (count_of bytes order at) (at + 4),
        next_is at,
      )

  -- all rings' numbers
  pub record Laying (n : ℕ) (coords₀ : List ℤ) (at c k : ℕ) (coords : List ℤ) : Type 0 where
    pub on : Along bytes order n at k
    pub room : c + length (coords_of scale (rings_of bytes order (n - k) at)) ≤ length coords
    pub long : length coords ≡ length coords₀
    pub ok : fault_at (all_storable scale) (rings_of bytes order (n - k) at) ≡ n - k
    pub same : write coords c (coords_of scale (rings_of bytes order (n - k) at)) ≡ write coords₀ 0 (coords_of scale (rings_of bytes order n 9))

  pub laying : (n : ℕ) (coords : List ℤ) → Whole bytes order n → fault_at (all_storable scale) (rings_of bytes order n 9) ≡ n
      → length (coords_of scale (rings_of bytes order n 9)) ≤ length coords → Laying n coords 9 0 0 coords
  laying n coords w t r = record { on = along bytes order n w; room = rw sub-zero (omega arith); long = refl; ok = rw sub-zero t; same = rw sub-zero }

  -- a rule that all rings keep, taken apart at the first
  first_ok : (r : Ring) (rs : Shape) (n : ℕ) (b : Bool) → all_storable scale r ≡ b → cond b (suc (fault_at (all_storable scale) rs)) 0 ≡ suc n
      → (b ≡ true) × (fault_at (all_storable scale) rs ≡ n)
  first_ok r rs n true t e = (refl, omega arith)
  first_ok r rs n false t e = absurd (omega arith)

  module _ (n : ℕ) (coords₀ : List ℤ) (at c k : ℕ) (coords : List ℤ) (s : Laying n coords₀ at c k coords) (h : k < n) where
    here : rings_of bytes order (n - k) at ≡ points_of bytes order (count_of bytes order at) (at + 4) ∷ rings_of bytes order (n - (k + 1)) (next_of bytes order at)
    here = rings_here bytes order n at k s.on h

    oks_here : (all_storable scale (points_of bytes order (count_of bytes order at) (at + 4)) ≡ true)
        × (fault_at (all_storable scale) (rings_of bytes order (n - (k + 1)) (next_of bytes order at)) ≡ n - (k + 1))
    unfolding fault_at
    oks_here =
        let e : n - k ≡ suc (n - (k + 1)) = omega arith in
        first_ok (points_of bytes order (count_of bytes order at) (at + 4)) (rings_of bytes order (n - (k + 1)) (next_of bytes order at)) (n - (k + 1)) _ refl
        (sym (ap (fault_at (all_storable scale)) here) ∙ s.ok ∙ e)

    pub ring_ok : all_storable scale (points_of bytes order (count_of bytes order at) (at + 4)) ≡ true
    ring_ok = oks_here.0

    numbers_here : length (coords_of scale (rings_of bytes order (n - k) at))
        ≡ 2 * count_of bytes order at + length (coords_of scale (rings_of bytes order (n - (k + 1)) (next_of bytes order at)))
    unfolding coords_of
    numbers_here =
        let r = points_of bytes order (count_of bytes order at) (at + 4) in
        ap (λ (rs : Shape). length (coords_of scale rs)) here
        ∙ length-append (ring_coords scale r) (coords_of scale (rings_of bytes order (n - (k + 1)) (next_of bytes order at)))
        ∙ ap (λ (m : ℕ). m + length (coords_of scale (rings_of bytes order (n - (k + 1)) (next_of bytes order at))))
        (ring_numbers scale r ∙ ap (λ (m : ℕ). 2 * m) (points_length bytes order (count_of bytes order at) (at + 4)))

    pub ring_room : c + 2 * count_of bytes order at ≤ length coords
    ring_room = omega (arith, numbers_here, s.room)

    pub laying_on : (next : List ℤ) → next ≡ write coords c (ring_coords scale (points_of bytes order (count_of bytes order at) (at + 4)))
        → Laying n coords₀ (next_of bytes order at) (c + 2 * count_of bytes order at) (k + 1) next
    unfolding coords_of
    laying_on next e =
        let r = points_of bytes order (count_of bytes order at) (at + 4) in
        let rs = rings_of bytes order (n - (k + 1)) (next_of bytes order at) in
        let long = ap length e ∙ write_length coords c (ring_coords scale r) in
        let many = ring_numbers scale r ∙ ap (λ (m : ℕ). 2 * m) (points_length bytes order (count_of bytes order at) (at + 4)) in
        record {
          on = along_on bytes order n at k s.on h;
          room = omega (arith, numbers_here, s.room, long);
          long = long ∙ s.long;
          ok = oks_here.1;
          same = ap₂ (λ (l : List ℤ) (m : ℕ). write l (c + m) (coords_of scale rs)) e (sym many)
              ∙ write_append coords c (ring_coords scale r) (coords_of scale rs)
              ∙ sym (ap (λ (all : Shape). write coords c (coords_of scale all)) here)
              ∙ s.same;
        }

  pub laying_done : (n : ℕ) (coords₀ : List ℤ) (at c k : ℕ) (coords : List ℤ) → Laying n coords₀ at c k coords → n ≤ k
      → coords ≡ write coords₀ 0 (coords_of scale (rings_of bytes order n 9))
  unfolding write coords_of
  laying_done n coords₀ at c k coords s h = sym (ap (λ (all : Shape). write coords c (coords_of scale all)) (rings_none bytes order n at k h)) ∙ s.same

-- all rings' sizes
pub sizes_length : (rs : Shape) → length (sizes_of rs) ≡ length rs
unfolding sizes_of
sizes_length [] = refl
sizes_length (r ∷ rs) = ap suc (sizes_length rs)

module _ (bytes : List ℕ) (order : ByteOrder) where
  pub sizes_count : (n : ℕ) → length (sizes_of (rings_of bytes order n 9)) ≡ n
  sizes_count n = sizes_length (rings_of bytes order n 9) ∙ rings_length bytes order n 9

  pub record Sizing (n : ℕ) (sizes₀ : List ℕ) (at k : ℕ) (sizes : List ℕ) : Type 0 where
    pub on : Along bytes order n at k
    pub room : n ≤ length sizes
    pub long : length sizes ≡ length sizes₀
    pub same : write sizes k (sizes_of (rings_of bytes order (n - k) at)) ≡ write sizes₀ 0 (sizes_of (rings_of bytes order n 9))

  pub sizing : (n : ℕ) (sizes : List ℕ) → Whole bytes order n → n ≤ length sizes → Sizing n sizes 9 0 sizes
  sizing n sizes w r = record { on = along bytes order n w; room = r; long = refl; same = rw sub-zero }

  pub sizing_on : (n : ℕ) (sizes₀ : List ℕ) (at k : ℕ) (sizes : List ℕ) → Sizing n sizes₀ at k sizes → k < n
      → Sizing n sizes₀ (next_of bytes order at) (k + 1) (set sizes k (count_of bytes order at))
  unfolding write sizes_of
  sizing_on n sizes₀ at k sizes s h =
      let rs = rings_of bytes order (n - (k + 1)) (next_of bytes order at) in
      record {
        on = along_on bytes order n at k s.on h;
        room = rw length-set s.room;
        long = length-set sizes k (count_of bytes order at) ∙ s.long;
        same = sym (ap (λ (all : Shape). write sizes k (sizes_of all)) (rings_here bytes order n at k s.on h)
            ∙ ap (λ (m : ℕ). write (set sizes k m) (k + 1) (sizes_of rs)) (points_length bytes order (count_of bytes order at) (at + 4)))
            ∙ s.same;
      }

  pub sizing_done : (n : ℕ) (sizes₀ : List ℕ) (at k : ℕ) (sizes : List ℕ) → Sizing n sizes₀ at k sizes → n ≤ k
      → sizes ≡ write sizes₀ 0 (sizes_of (rings_of bytes order n 9))
  unfolding write sizes_of
  sizing_done n sizes₀ at k sizes s h = sym (ap (λ (all : Shape). write sizes k (sizes_of all)) (rings_none bytes order n at k h)) ∙ s.same
