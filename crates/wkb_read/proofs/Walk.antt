-- Passes over the rings of bytes that are whole, and what is stored of them. Assumes nothing.
use Rattle.std.specs.Prelude.{Ok, Err}
use Prim.Native.Nat.{ℕ, zero, suc, ◌+◌, ◌*◌, ◌-◌, ◌≤◌, ◌<◌}
use mathlib.Core.Path.{◌≡◌, refl, sym, ap, ◌∙◌}
use mathlib.Core.List.{List, [], ◌∷◌}
use mathlib.Core.Bool.{Bool, true, false, not, cond, ◌&&◌}
use mathlib.Core.Logic.{⊎_elim}
use native.Mathlib.Omega.{arith}
use native.Mathlib.Nat.{sub-zero}
use borrow.Author.Tests.{le-leb, lt-leb, le-ltb, lt-ltb, leb-true}
use lib.ListN.{length, get_or}
use lib.Dec.{leb, ltb}
use lib.IntN.{ℤ, pos, negsuc}
use lib.Signed.{le_z, mag}
use lib.Ieee.Scale.{finite}
use mir.Syntax.{w32}
use mir.Val.{SFits}
use Rattle.whole.specs.Held.{first, last}
use Rattle.room.proofs.Cases.{lt_or}
use Rattle.rings.proofs.Checks.{both}
use lib.Ieee.{Float}
use Rattle.rings.specs.Checks.{eq_z}
use Rattle.wkb_fields.specs.declared.ByteOrder.{ByteOrder}
use Rattle.wkb_fields.specs.Fields.{field_of}
use Rattle.answers.specs.declared.Refusal.TheVariants.{TooFew, TooMany, NotClosed}
use Rattle.wkb_shape.specs.declared.WkbRefusal.{WkbRefusal}
use Rattle.wkb_shape.specs.declared.WkbRefusal.TheVariants.{Plain, Unstored}
use Rattle.wkb_shape.specs.Wkb.{Ring, Shape, rings}
use Rattle.wkb_shape.specs.Inner.Laid.{end_of, points_of, count_of, next_of, rings_of, Whole}
use Rattle.wkb_shape.proofs.Laid.{Begun, begun, points_length}
use Rattle.wkb_read.specs.Stored.{scaled_of, stored_of, storable, all_storable, ring_coords}
use Rattle.wkb_read.specs.Judged.{Judged, fault_at, each_ring, enough, not_over, shut, judged}

module _ (bytes : List ℕ) (order : ByteOrder) where
  -- ring k starts at a place, and those from it on go to the end of the bytes
  pub record Along (n at k : ℕ) : Type 0 where
    pub within : k ≤ n
    pub ends : end_of (rings bytes order (n - k) at) ≡ Ok (length bytes)

  pub along : (n : ℕ) → Whole bytes order n → Along n 9 0
  along n w = record { within = omega arith; ends = rw sub-zero w }

  module _ (n at k : ℕ) (i : Along n at k) (h : k < n) where
    pub one_more : n - k ≡ suc (n - (k + 1))
    one_more = omega arith

    -- the ring that starts there
    pub here : Begun bytes order (n - (k + 1)) at (length bytes)
    here = begun bytes order (n - (k + 1)) at (length bytes) (sym (ap (λ (m : ℕ). end_of (rings bytes order m at)) one_more) ∙ i.ends)

    pub along_on : Along n (next_of bytes order at) (k + 1)
    along_on = record { within = omega arith; ends = here.later }

    -- its count is there, and so are its points
    pub count_there : at + 4 ≤ length bytes
    count_there = here.counted

    pub points_there : at + 4 + 16 * count_of bytes order at ≤ length bytes
    unfolding next_of
    points_there = here.within

    pub rings_here : rings_of bytes order (n - k) at ≡ points_of bytes order (count_of bytes order at) (at + 4) ∷ rings_of bytes order (n - (k + 1)) (next_of bytes order at)
    unfolding rings_of
    rings_here = rw one_more

  pub rings_none : (n at k : ℕ) → n ≤ k → rings_of bytes order (n - k) at ≡ []
  unfolding rings_of
  rings_none n at k h = let e : n - k ≡ 0 = omega arith in rw e

  -- a rule over the rings: from ring k on it finds what it finds from the first
  module _ (ok : Ring → Bool) where
    pub record Going (n at k : ℕ) : Type 0 where
      pub on : Along n at k
      pub same : k + fault_at ok (rings_of bytes order (n - k) at) ≡ fault_at ok (rings_of bytes order n 9)

    pub going : (n : ℕ) → Whole bytes order n → Going n 9 0
    going n w = record { on = along n w; same = rw sub-zero (omega arith) }

    fault_on : (r : Ring) (rs : Shape) (k : ℕ) → ok r ≡ true → k + fault_at ok (r ∷ rs) ≡ k + 1 + fault_at ok rs
    unfolding fault_at
    fault_on r rs k t = rw t (omega arith)

    fault_here : (r : Ring) (rs : Shape) (k : ℕ) → ok r ≡ false → k + fault_at ok (r ∷ rs) ≡ k
    unfolding fault_at
    fault_here r rs k t = rw t (omega arith)

    module _ (n at k : ℕ) (i : Going n at k) (h : k < n) where
      step : k + fault_at ok (points_of bytes order (count_of bytes order at) (at + 4) ∷ rings_of bytes order (n - (k + 1)) (next_of bytes order at))
          ≡ fault_at ok (rings_of bytes order n 9)
      step = sym (ap (λ (rs : Shape). k + fault_at ok rs) (rings_here n at k i.on h)) ∙ i.same

      pub go_on : ok (points_of bytes order (count_of bytes order at) (at + 4)) ≡ true → Going n (next_of bytes order at) (k + 1)
      go_on t = record { on = along_on n at k i.on h; same = sym (fault_on _ _ k t) ∙ step }

      pub go_fault : ok (points_of bytes order (count_of bytes order at) (at + 4)) ≡ false → k ≡ fault_at ok (rings_of bytes order n 9)
      go_fault t = sym (fault_here _ _ k t) ∙ step

    pub go_done : (n at k : ℕ) → Going n at k → n ≤ k → n ≡ fault_at ok (rings_of bytes order n 9)
    unfolding fault_at
    go_done n at k i h =
        let e = sym (ap (λ (rs : Shape). k + fault_at ok rs) (rings_none n at k h)) ∙ i.same in
        let w = i.on.within in omega (arith, e)

-- the rules on a ring's count, as tests of the count
pub leb_not : (m n : ℕ) → leb m n ≡ not (ltb n m)
leb_not m n =
    ⊎_elim (λ (h : n < m). lt-leb m n h ∙ ap not (sym (lt-ltb n m h))) (λ (h : m ≤ n). le-leb m n h ∙ ap not (sym (le-ltb n m h))) (lt_or n m)

module _ (bytes : List ℕ) (order : ByteOrder) (at n : ℕ) (r : Bool) where
  pub enough_told : r ≡ leb 2 n → r ≡ enough (points_of bytes order n at)
  enough_told e = rw (points_length bytes order n at) (e ∙ leb_not 2 n)

  pub not_over_told : r ≡ leb n 4097 → r ≡ not_over (points_of bytes order n at)
  not_over_told e = rw (points_length bytes order n at) (e ∙ leb_not n 4097)

-- what a rule over all rings comes to
module _ (ok : Ring → Bool) (told : ℕ → WkbRefusal) (shape : Shape) where
  pub each_fault : (k : ℕ) (later : Judged) → k ≡ fault_at ok shape → k < length shape → each_ring ok told shape later ≡ Err (told k)
  unfolding each_ring
  each_fault k later e h = rw (← e, lt-ltb k (length shape) h)

  pub each_none : (later : Judged) → length shape ≡ fault_at ok shape → each_ring ok told shape later ≡ later
  unfolding each_ring
  each_none later e = rw (← e, le-ltb (length shape) (length shape) (omega arith))

  -- and with other rules behind it
  by_test : (b : Bool) (w : WkbRefusal) (later : Judged) → ◌≡◌ {A = Judged} (cond b (Err w) (Ok tt)) (Ok tt) → cond b (Err w) later ≡ later
  by_test true w later e = cc
  by_test false w later e = refl

  pub each_kept : (later : Judged) → each_ring ok told shape (Ok tt) ≡ Ok tt → each_ring ok told shape later ≡ later
  unfolding each_ring
  each_kept later e = by_test (ltb (fault_at ok shape) (length shape)) _ later e

  by_fault : (b : Bool) (w : WkbRefusal) (later : Judged) (why : WkbRefusal) → ◌≡◌ {A = Judged} (cond b (Err w) (Ok tt)) (Err why) → cond b (Err w) later ≡ Err why
  by_fault true w later why e = e
  by_fault false w later why e = let z : ◌≡◌ {A = ℕ} 0 1 = cc in absurd (omega arith)

  pub each_broken : (later : Judged) (why : WkbRefusal) → each_ring ok told shape (Ok tt) ≡ Err why → each_ring ok told shape later ≡ Err why
  unfolding each_ring
  each_broken later why e = by_fault (ltb (fault_at ok shape) (length shape)) _ later why e

-- the rules one after the other, as far as they have been asked
module _ (scale : Float) (shape : Shape) where
  pub judged_none : length shape < 1 → Err (Plain (TooFew 0)) ≡ judged scale shape
  unfolding judged
  judged_none h = rw (lt-ltb (length shape) 1 h)

  module _ (some : 1 ≤ length shape) where
    pub judged_few : (why : WkbRefusal) → Err why ≡ each_ring enough (λ k. Plain (TooFew k)) shape (Ok tt) → Err why ≡ judged scale shape
    unfolding judged
    judged_few why e = rw (le-ltb (length shape) 1 some) (sym (each_broken enough _ shape _ why (sym e)))

    module _ (few : Ok tt ≡ each_ring enough (λ k. Plain (TooFew k)) shape (Ok tt)) where
      pub judged_many_rings : 64 < length shape → Err (Plain (TooMany 64)) ≡ judged scale shape
      unfolding judged
      judged_many_rings h = rw (le-ltb (length shape) 1 some) (sym (each_kept enough _ shape _ (sym few) ∙ rw (lt-ltb 64 (length shape) h)))

      module _ (most : length shape ≤ 64) where
        pub judged_many : (why : WkbRefusal) → Err why ≡ each_ring not_over (λ k. Plain (TooMany k)) shape (Ok tt) → Err why ≡ judged scale shape
        unfolding judged
        judged_many why e =
            rw (le-ltb (length shape) 1 some)
            (sym (each_kept enough _ shape _ (sym few) ∙ rw (le-ltb 64 (length shape) most) (each_broken not_over _ shape _ why (sym e))))

        module _ (many : Ok tt ≡ each_ring not_over (λ k. Plain (TooMany k)) shape (Ok tt)) where
          pub judged_unstored : (why : WkbRefusal) → Err why ≡ each_ring (all_storable scale) Unstored shape (Ok tt) → Err why ≡ judged scale shape
          unfolding judged
          judged_unstored why e =
              rw (le-ltb (length shape) 1 some)
              (sym (each_kept enough _ shape _ (sym few)
              ∙ rw (le-ltb 64 (length shape) most)
              (each_kept not_over _ shape _ (sym many) ∙ each_broken (all_storable scale) _ shape _ why (sym e))))

          pub judged_last : Ok tt ≡ each_ring (all_storable scale) Unstored shape (Ok tt)
              → each_ring (shut scale) (λ k. Plain (NotClosed k)) shape (Ok tt) ≡ judged scale shape
          unfolding judged
          judged_last e =
              rw (le-ltb (length shape) 1 some)
              (sym (each_kept enough _ shape _ (sym few)
              ∙ rw (le-ltb 64 (length shape) most)
              (each_kept not_over _ shape _ (sym many) ∙ each_kept (all_storable scale) _ shape _ (sym e))))

-- rule 4 on the points that stand at a place
module _ (bytes : List ℕ) (order : ByteOrder) (scale : Float) where
  points_get : (n at i : ℕ) → i < n
      → (get_or (ring_coords scale (points_of bytes order n at)) (i * 2) (pos 0) ≡ stored_of scale (field_of order 8 bytes (at + 16 * i)))
      × (get_or (ring_coords scale (points_of bytes order n at)) (i * 2 + 1) (pos 0) ≡ stored_of scale (field_of order 8 bytes (at + 16 * i + 8)))
  unfolding ring_coords points_of
  points_get zero at i h = absurd (omega arith)
  points_get (suc n) at zero h =
      let e : at + 0 ≡ at = omega arith in (rw e, rw e)
  points_get (suc n) at (suc i) h =
      let later = points_get n (at + 16) i (omega arith) in
      let a : suc i * 2 ≡ suc (suc (i * 2)) = omega arith in
      let b : suc i * 2 + 1 ≡ suc (suc (i * 2 + 1)) = omega arith in
      let e : at + 16 + 16 * i ≡ at + 16 * suc i = omega arith in
      (rw (a, ← e) later.0, rw (b, ← e) later.1)

  pub shut_none : (n at : ℕ) → n < 1 → true ≡ shut scale (points_of bytes order n at)
  unfolding points_of ring_coords
  shut_none n at h = let e : n ≡ 0 = omega arith in rw e

  pub shut_some : (n at : ℕ) → 1 ≤ n
      → shut scale (points_of bytes order n at)
      ≡ eq_z (stored_of scale (field_of order 8 bytes at)) (stored_of scale (field_of order 8 bytes (at + 16 * (n - 1))))
      && eq_z (stored_of scale (field_of order 8 bytes (at + 8))) (stored_of scale (field_of order 8 bytes (at + 16 * (n - 1) + 8)))
  shut_some n at h =
      let a = points_get n at 0 (omega arith) in
      let z = points_get n at (n - 1) (omega arith) in
      let e : at + 0 ≡ at = omega arith in
      rw (points_length bytes order n at, a.0, a.1, z.0, z.1, e)

-- what can be stored is an i32
in_i32 : (z : ℤ) → le_z (first 31) z ≡ true → le_z z (last 31) ≡ true → mag z < 2147483648
in_i32 (pos n) a b = omega (arith, leb-true n 2147483647 b)
in_i32 (negsuc n) a b = omega (arith, leb-true n 2147483647 a)

pub storable_fits : (scale : Float) (n : ℕ) → storable scale n ≡ true → SFits w32 (stored_of scale n)
storable_fits scale n e =
    let k = stored_of scale n in
    let outer = both (finite (scaled_of scale n) && le_z (first 31) k) (le_z k (last 31)) e in
    let inner = both (finite (scaled_of scale n)) (le_z (first 31) k) outer.0 in record { sfits = in_i32 k inner.1 outer.1 }
