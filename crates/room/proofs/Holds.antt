-- Laws of a run of elements that stands at a place: what a reader learns from what a writer wrote.
use Prim.Native.Nat.{ℕ, zero, suc, ◌+◌, ◌-◌, ◌≤◌, ◌<◌}
use mathlib.Core.Path.{◌≡◌, sym, ap, ◌∙◌}
use mathlib.Core.List.{List, [], ◌∷◌, ◌++◌, append_assoc}
use native.Mathlib.Omega.{arith}
use native.Mathlib.Nat.{sub-zero, suc-sub-suc, le_of_suc-le-suc, not-suc-le-zero}
use lib.ListN.{length, get_or, take, drop, length-take, length-drop, take-append-drop}
use lib.Seq.{take-nil, take-append_seam, drop-append_seam, take-take, drop-drop, drop_at, length-take-le, get_or-drop}
use Rattle.room.specs.Room.{write, Holds}
use Rattle.room.proofs.Write.{write_eq}

module _ {A : Type 0} where
  drop_take : (i n : ℕ) (l : List A) → i ≤ n → drop i (take n l) ≡ take (n - i) (drop i l)
  drop_take zero n l h = rw sub-zero
  drop_take (suc i) zero l h = absurd (not-suc-le-zero h)
  drop_take (suc i) (suc n) [] h = sym (take-nil (suc n - suc i))
  drop_take (suc i) (suc n) (x ∷ l) h = rw suc-sub-suc (drop_take i n l (le_of_suc-le-suc h))

  -- from the place on the room is the run and what stands behind it
  pub holds_drop : (l : List A) (i : ℕ) (vs : List A) → Holds l i vs → drop i l ≡ vs ++ drop (i + length vs) l
  unfolding Holds
  holds_drop l i vs h =
      sym (take-append-drop (length vs) (drop i l)) ∙ rw (h, drop-drop)

  pub holds_within : (l : List A) (i : ℕ) (vs : List A) → 0 < length vs → Holds l i vs → i + length vs ≤ length l
  unfolding Holds
  holds_within l i vs p h = omega (arith, sym (length-take (length vs) (drop i l)) ∙ ap length h, length-drop i l)

  pub drop_holds : (l : List A) (i : ℕ) (vs rest : List A) → drop i l ≡ vs ++ rest → Holds l i vs
  unfolding Holds
  drop_holds l i vs rest e = rw (e, take-append_seam)

  pub holds_first : (l : List A) (i : ℕ) (v : A) (vs : List A) (d : A) → Holds l i (v ∷ vs) → get_or l i d ≡ v
  holds_first l i v vs d h =
      let e : i + 0 ≡ i = omega arith in
      sym (get_or-drop i l 0 d ∙ ap (λ (k : ℕ). get_or l k d) e) ∙ ap (λ (xs : List A). get_or xs 0 d) (holds_drop l i (v ∷ vs) h)

  pub holds_rest : (l : List A) (i : ℕ) (us vs : List A) → Holds l i (us ++ vs) → Holds l (i + length us) vs
  holds_rest l i us vs h =
      drop_holds l (i + length us) vs _
      (sym (drop-drop (length us) i l)
      ∙ ap (λ (xs : List A). drop (length us) xs) (holds_drop l i (us ++ vs) h ∙ append_assoc us vs _)
      ∙ drop-append_seam us _)

  pub holds_front : (l : List A) (i : ℕ) (us vs : List A) → Holds l i (us ++ vs) → Holds l i us
  holds_front l i us vs h = drop_holds l i us _ (holds_drop l i (us ++ vs) h ∙ append_assoc us vs _)

  -- a part of the room holds what ends inside it
  pub holds_take : (l : List A) (i n : ℕ) (vs : List A) → i + length vs ≤ n → Holds l i vs → Holds (take n l) i vs
  unfolding Holds
  holds_take l i n vs b h = rw (drop_take i n l (omega arith), take-take (length vs) (n - i) (drop i l) (omega arith)) h

  pub take_holds : (l : List A) (i n : ℕ) (vs : List A) → i + length vs ≤ n → Holds (take n l) i vs → Holds l i vs
  unfolding Holds
  take_holds l i n vs b h = rw (drop_take i n l (omega arith), take-take (length vs) (n - i) (drop i l) (omega arith)) at h

  -- what was written where it fits stands there
  pub holds_write : (l : List A) (i : ℕ) (vs : List A) → i + length vs ≤ length l → Holds (write l i vs) i vs
  holds_write l i vs h =
      drop_holds (write l i vs) i vs (drop (i + length vs) l)
      (ap (λ (xs : List A). drop i xs) (write_eq l i vs h ∙ append_assoc (take i l) vs (drop (i + length vs) l))
      ∙ drop_at (take i l) (vs ++ drop (i + length vs) l) i (length-take-le i l (omega arith)))
