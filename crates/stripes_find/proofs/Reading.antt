-- Reading listed numbers one at a time. Assumes nothing.
use mathlib.Core.Path.{◌≡◌, refl, sym, ap, ◌∙◌}
use mathlib.Core.Bool.{Bool, true, false}
use mathlib.Core.List.{List, [], ◌∷◌}
use Prim.Native.Nat.{ℕ, ◌+◌, ◌≤◌, ◌<◌}
use native.Mathlib.Omega.{arith}
use native.Mathlib.Numerals.{add-one}
use lib.ListN.{length, get_or, set}
use lib.Seq.{slice, slice_empty, slice-cons}
use borrow.Author.Tests.{lt-ltb, le-ltb}
use Rattle.room.specs.Numbers.{cons_if}
use Rattle.room.specs.Room.{write}
use Rattle.stripes_find.specs.Search.{complete, damaged_at, found_in, end_in}

module _ (n : ℕ) (meets : ℕ → Bool) (list : List ℕ) (past : ℕ) where
  pub found_done : found_in n meets (slice past past list) ≡ []
  unfolding found_in
  found_done = rw (slice_empty past list)

  pub end_done : end_in n past (slice past past list) ≡ complete
  unfolding end_in
  end_done = rw (slice_empty past list)

  module _ (at : ℕ) (h : at < past) (k : past ≤ length list) where
    next : slice at past list ≡ get_or list at 0 ∷ slice (at + 1) past list
    next = rw (add-one at) (slice-cons at past list 0 h k)

    -- a number that is no segment's
    pub found_broken : n ≤ get_or list at 0 → found_in n meets (slice at past list) ≡ []
    unfolding found_in
    found_broken b = rw (next, le-ltb (get_or list at 0) n b)

    pub end_broken : n ≤ get_or list at 0 → end_in n at (slice at past list) ≡ damaged_at at
    unfolding end_in
    end_broken b = rw (next, le-ltb (get_or list at 0) n b)

    -- a segment's
    pub found_more : get_or list at 0 < n → found_in n meets (slice at past list) ≡ cons_if (meets (get_or list at 0)) (get_or list at 0) (found_in n meets (slice (at + 1) past list))
    unfolding found_in
    found_more b = rw (next, lt-ltb (get_or list at 0) n b)

    pub end_more : get_or list at 0 < n → end_in n at (slice at past list) ≡ end_in n (at + 1) (slice (at + 1) past list)
    unfolding end_in
    end_more b = rw (next, lt-ltb (get_or list at 0) n b)

-- ---- listing into room: what is yet to come, written at k, makes what all of it makes, written at 0
module _ (n : ℕ) (meets : ℕ → Bool) (list : List ℕ) (start past : ℕ) (out₀ : List ℕ) where
  pub record Listing (out : List ℕ) (k at : ℕ) : Type 0 where
    pub same : write out k (found_in n meets (slice at past list)) ≡ write out₀ 0 (found_in n meets (slice start past list))
    pub count : k + length (found_in n meets (slice at past list)) ≡ length (found_in n meets (slice start past list))
    pub ends : end_in n at (slice at past list) ≡ end_in n start (slice start past list)

  pub listing_start : Listing out₀ 0 start
  listing_start = record { same = refl; count = omega arith; ends = refl }

  module _ (out : List ℕ) (k at x : ℕ) (l : Listing out k at) (h : at < past) (b : past ≤ length list) (is : x ≡ get_or list at 0) where
    more : x < n → found_in n meets (slice at past list) ≡ cons_if (meets x) x (found_in n meets (slice (at + 1) past list))
    more s = rw is (found_more n meets list past at h b (rw (← is) s))

    ends_more : x < n → end_in n (at + 1) (slice (at + 1) past list) ≡ end_in n start (slice start past list)
    ends_more s = sym (end_more n meets list past at h b (rw (← is) s)) ∙ l.ends

    pub listing_kept : x < n → meets x ≡ true → Listing (set out k x) (k + 1) (at + 1)
    unfolding write
    listing_kept s m =
        let e : found_in n meets (slice at past list) ≡ x ∷ found_in n meets (slice (at + 1) past list) =
        more s ∙ ap (λ (t : Bool). cons_if t x (found_in n meets (slice (at + 1) past list))) m in
        record {
          same = sym (ap (λ (vs : List ℕ). write out k vs) e) ∙ l.same;
          count = omega (arith, ap length e, l.count);
          ends = ends_more s;
        }

    pub listing_passed : x < n → meets x ≡ false → Listing out k (at + 1)
    listing_passed s m =
        let e : found_in n meets (slice at past list) ≡ found_in n meets (slice (at + 1) past list) =
        more s ∙ ap (λ (t : Bool). cons_if t x (found_in n meets (slice (at + 1) past list))) m in
        record {
          same = sym (ap (λ (vs : List ℕ). write out k vs) e) ∙ l.same;
          count = omega (arith, ap length e, l.count);
          ends = ends_more s;
        }

    -- one number more than the room takes
    pub listing_full : x < n → meets x ≡ true → length out ≤ k → length out < length (found_in n meets (slice start past list))
    listing_full s m f =
        let e : found_in n meets (slice at past list) ≡ x ∷ found_in n meets (slice (at + 1) past list) =
        more s ∙ ap (λ (t : Bool). cons_if t x (found_in n meets (slice (at + 1) past list))) m in
        omega (arith, ap length e, l.count)

    -- no segment's number: what was found stands in the room, and the place is the number's
    pub listing_broken : n ≤ x → (length (found_in n meets (slice start past list)) ≡ k) × (end_in n start (slice start past list) ≡ damaged_at at)
    listing_broken s =
        (omega (arith, ap length (found_broken n meets list past at h b (rw (← is) s)), l.count), sym l.ends ∙ end_broken n meets list past at h b (rw (← is) s))

  pub listing_done : (out : List ℕ) (k at : ℕ) → Listing out k at → at ≡ past
      → (k ≡ length (found_in n meets (slice start past list))) × (end_in n start (slice start past list) ≡ complete)
      × (out ≡ write out₀ 0 (found_in n meets (slice start past list)))
  unfolding write
  listing_done out k at l e =
      let f : found_in n meets (slice at past list) ≡ [] = rw e (found_done n meets list past) in (
        omega (arith, ap length f, l.count),
        sym l.ends ∙ rw e (end_done n meets list past),
        sym (ap (λ (vs : List ℕ). write out k vs) f) ∙ l.same,
      )
