-- A node's own segments, written number by number. Assumes nothing.
use Prim.Native.Nat.{ℕ, ◌+◌, ◌-◌, ◌≤◌, ◌<◌}
use mathlib.Core.Path.{◌≡◌, refl, sym, ap, ◌∙◌}
use mathlib.Core.List.{List, [], ◌∷◌, ◌++◌}
use native.Mathlib.Omega.{arith}
use native.Mathlib.Numerals.{add-one}
use lib.ListN.{length, get_or, drop, set, length-append, drop_of_length-le}
use lib.Seq.{drop-cons}
use Rattle.room.specs.Room.{write}
use Rattle.room.proofs.Write.{write_length, write_append}
use Rattle.varint.specs.Leb128.{encode}
use Rattle.tree.specs.Tree.{differences, own_bytes}
use Rattle.tree_pack.specs.Inner.Packing.{head_of}

-- one run behind another
pub write_two : {A : Type 0} (l l' : List A) (i j : ℕ) (us vs : List A) → l' ≡ write l i us → j ≡ i + length us → write l' j vs ≡ write l i (us ++ vs)
write_two l l' i j us vs e f = rw (e, f) (write_append l i us vs)

diff_more : (own : List ℕ) (last i : ℕ) → i < length own
    → differences last (drop i own) ≡ encode (get_or own i 0 - last) ++ differences (get_or own i 0) (drop (i + 1) own)
unfolding differences
diff_more own last i h = rw (drop-cons own i 0 h, add-one)

diff_done : (own : List ℕ) (last i : ℕ) → length own ≤ i → differences last (drop i own) ≡ []
unfolding differences
diff_done own last i h = rw (drop_of_length-le own h)

-- how far the writing of the differences came
pub record Putting (own : List ℕ) (out₀ : List ℕ) (p₀ : ℕ) (out : List ℕ) (p last i : ℕ) : Type 0 where
  pub fits : p₀ + length (differences 0 own) ≤ length out₀
  pub same : write out p (differences last (drop i own)) ≡ write out₀ p₀ (differences 0 own)
  pub place : p + length (differences last (drop i own)) ≡ p₀ + length (differences 0 own)
  pub long : length out ≡ length out₀

module _ (own out₀ : List ℕ) (p₀ : ℕ) where
  pub putting : p₀ + length (differences 0 own) ≤ length out₀ → Putting own out₀ p₀ out₀ p₀ 0 0
  putting h = record { fits = h; same = refl; place = refl; long = refl }

  module _ (out : List ℕ) (p last i : ℕ) (s : Putting own out₀ p₀ out p last i) where
    pub putting_fits : i < length own → p + length (encode (get_or own i 0 - last)) ≤ length out
    putting_fits h =
        omega (arith, s.fits, s.place, s.long, ap length (diff_more own last i h), length-append (encode (get_or own i 0 - last)) (differences (get_or own i 0) (drop (i + 1) own)))

    pub putting_more : i < length own → (out' : List ℕ) (p' : ℕ) → out' ≡ write out p (encode (get_or own i 0 - last)) → p' ≡ p + length (encode (get_or own i 0 - last))
        → Putting own out₀ p₀ out' p' (get_or own i 0) (i + 1)
    putting_more h out' p' e f =
        record {
          fits = s.fits;
          same =
              write_two out out' p p' (encode (get_or own i 0 - last)) (differences (get_or own i 0) (drop (i + 1) own)) e f
              ∙ ap (write out p) (sym (diff_more own last i h))
              ∙ s.same;
          place = omega (arith, s.place, ap length (diff_more own last i h), length-append (encode (get_or own i 0 - last)) (differences (get_or own i 0) (drop (i + 1) own)));
          long = ap length e ∙ write_length out p (encode (get_or own i 0 - last)) ∙ s.long;
        }

    pub putting_done : length own ≤ i → (p ≡ p₀ + length (differences 0 own)) × (out ≡ write out₀ p₀ (differences 0 own))
    unfolding write
    putting_done h = (omega (arith, s.place, ap length (diff_done own last i h)), (rw (diff_done own last i h) at s.same))

-- the count, then the differences
module _ (own : List ℕ) where
  pub own_length : length (own_bytes own) ≡ length (encode (length own)) + length (differences 0 own)
  unfolding own_bytes
  own_length = length-append (encode (length own)) (differences 0 own)

  pub own_written : (o o₁ o₂ : List ℕ) (at p₀ p : ℕ) → o₁ ≡ write o at (encode (length own)) → p₀ ≡ at + length (encode (length own))
      → o₂ ≡ write o₁ p₀ (differences 0 own) → p ≡ p₀ + length (differences 0 own)
      → (p ≡ at + length (own_bytes own)) × (o₂ ≡ write o at (own_bytes own))
  unfolding own_bytes
  own_written o o₁ o₂ at p₀ p a b c d = (omega (arith, length-append (encode (length own)) (differences 0 own)), c ∙ write_two o o₁ at p₀ _ _ a b)

  -- and the split byte
  pub head_length : (s : ℕ) → length (head_of own s) ≡ length (own_bytes own) + 1
  head_length s = length-append (own_bytes own) (s ∷ [])

  pub head_written : (s : ℕ) (o o₁ : List ℕ) (at p : ℕ) → o₁ ≡ write o at (own_bytes own) → p ≡ at + length (own_bytes own)
      → (p + 1 ≡ at + length (head_of own s)) × (set o₁ p s ≡ write o at (head_of own s))
  unfolding write
  head_written s o o₁ at p a b = (omega (arith, head_length s), write_two o o₁ at p (own_bytes own) (s ∷ []) a b)
