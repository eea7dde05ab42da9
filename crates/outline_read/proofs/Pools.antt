-- One room for the parts of all rings, read back: each ring's part stands where the parts before it end. Assumes nothing.
use Prim.Native.Nat.{ℕ, zero, suc, ◌+◌, ◌-◌, ◌*◌, ◌≤◌, ◌<◌}
use mathlib.Core.Path.{◌≡◌, sym, ap, ◌∙◌}
use mathlib.Core.List.{List, [], ◌++◌, append_assoc, append-nil}
use mathlib.Core.Logic.{⊎_elim}
use native.Mathlib.Omega.{arith}
use lib.ListN.{length, get_or, take, drop, replicate, length-append, get_or-append}
use lib.Seq.{take-append_seam, drop-append_seam, get_or-append-add}
use Rattle.room.specs.Room.{padded}
use Rattle.room.proofs.Cases.{lt_or}
use Rattle.outline_index.specs.Pools.{in_turn, pad_with}
use Rattle.outline_index.proofs.Pools.{turn_like}
use Rattle.outline_ring.specs.RingIndex.{part}

module _ {A : Type 0} (f : ℕ → List A) where
  -- what stands before part k, the part, and what stands behind it
  turn_split : (k m : ℕ) → k < m → (rest : List A) × (in_turn f m ≡ in_turn f k ++ (f k ++ rest))
  unfolding in_turn
  turn_split k zero h = absurd (omega arith)
  turn_split k (suc m) h =
      ⊎_elim
      (λ (l : k < m). let r = turn_split k m l in (
        r.0 ++ f m,
        ap (λ (xs : List A). xs ++ f m) r.1 ∙ append_assoc (in_turn f k) (f k ++ r.0) (f m)
            ∙ ap (λ (xs : List A). in_turn f k ++ xs) (append_assoc (f k) r.0 (f m)),
      ))
      (λ (g : m ≤ k). let e : m ≡ k = omega arith in ([], rw e (ap (λ (xs : List A). in_turn f k ++ xs) (sym (append-nil (f k))))))
      (lt_or k m)

  module _ (z : A) (n k m : ℕ) (below : k < m) where
    pool_split : (rest : List A) × (pad_with z n (in_turn f m) ≡ in_turn f k ++ (f k ++ rest))
    unfolding padded
    pool_split =
        let r = turn_split k m below in
        let zeros = replicate (n - length (in_turn f m)) z in (
          r.0 ++ zeros,
          ap (λ (xs : List A). xs ++ zeros) r.1 ∙ append_assoc (in_turn f k) (f k ++ r.0) zeros
              ∙ ap (λ (xs : List A). in_turn f k ++ xs) (append_assoc (f k) r.0 zeros),
        )

    pub pool_part : part (pad_with z n (in_turn f m)) (length (in_turn f k)) (length (f k)) ≡ f k
    pool_part =
        ap (λ (xs : List A). take (length (f k)) (drop (length (in_turn f k)) xs)) pool_split.1
        ∙ ap (take (length (f k))) (drop-append_seam (in_turn f k) (f k ++ pool_split.0))
        ∙ take-append_seam (f k) pool_split.0

    -- all of it is there, whatever the room's size
    pub pool_lies : length (in_turn f k) + length (f k) ≤ length (pad_with z n (in_turn f m))
    pool_lies =
        omega (arith, ap length pool_split.1, length-append (in_turn f k) (f k ++ pool_split.0), length-append (f k) pool_split.0)

    -- where all parts are of one length
    pub pool_at : (w : ℕ) → ((j : ℕ) → length (f j) ≡ w) → (i : ℕ) → i < w → (d : A) → get_or (pad_with z n (in_turn f m)) (w * k + i) d ≡ get_or (f k) i d
    pool_at w like i h d =
        ap (λ (at : ℕ). get_or (pad_with z n (in_turn f m)) (at + i) d) (sym (turn_like f w k like))
        ∙ ap (λ (xs : List A). get_or xs (length (in_turn f k) + i) d) pool_split.1
        ∙ get_or-append-add (in_turn f k) (f k ++ pool_split.0) i d
        ∙ get_or-append (f k) pool_split.0 d i (omega (arith, like k))
