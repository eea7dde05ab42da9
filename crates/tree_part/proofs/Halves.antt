-- Laws of the two halves of a run, and of the loop that lifts one class. Assumes nothing.
use Prim.Native.Nat.{ℕ, zero, suc, ◌+◌, ◌-◌, ◌*◌, ◌/◌, ◌%◌, ◌≤◌, ◌<◌}
use mathlib.Core.Path.{◌≡◌, refl, sym, ap, ◌∙◌}
use mathlib.Core.List.{List, [], ◌∷◌, ◌++◌, map, append-nil}
use mathlib.Core.Bool.{Bool}
use native.Mathlib.Omega.{arith}
use native.Mathlib.Numerals.{add-one}
use lib.ListN.{length, length-append, get_or, drop, set, drop_of_length-le, length-map, length-set, get_or-map}
use lib.Seq.{drop-cons, map-set_same}
use lib.Dec.{eqb}
use borrow.Author.Tests.{eq-eqb, ne_eqb}
use Rattle.room.specs.Numbers.{cons_if}
use Rattle.room.specs.Room.{write}
use Rattle.room.proofs.Write.{write_append, write_eq}
use Rattle.tree_part.specs.Inner.Halves.{lower, upper, of_class, Lifted, classes, class_counts}

-- one number is put for another
map_set : (f : ℕ → ℕ) (l : List ℕ) (i y : ℕ) → map f (set l i y) ≡ set (map f l) i (f y)
map_set f [] i y = refl
map_set f (x ∷ xs) zero y = refl
map_set f (x ∷ xs) (suc i) y = ap (λ (r : List ℕ). f x ∷ r) (map_set f xs i y)

-- the run with v in the upper half at p
abbrev stored : List ℕ → ℕ → ℕ → List ℕ
stored run p v = set run p (lower (get_or run p 0) + 65536 * v)

stored_lower : (run : List ℕ) (p v : ℕ) → map lower (stored run p v) ≡ map lower run
stored_lower run p v = map-set_same lower run p (lower (get_or run p 0) + 65536 * v) 0 (omega arith)

stored_upper : (run : List ℕ) (p v : ℕ) → map upper (stored run p v) ≡ set (map upper run) p v
stored_upper run p v =
    let e : upper (lower (get_or run p 0) + 65536 * v) ≡ v = omega arith in
    map_set upper run p (lower (get_or run p 0) + 65536 * v) ∙ ap (λ (z : ℕ). set (map upper run) p z) e

-- what is still to be lifted from place i on
abbrev rest : ℕ → List ℕ → ℕ → List ℕ
rest k run i = of_class k (drop i (map lower run))

module _ (k : ℕ) (run : List ℕ) (i : ℕ) where
  rest_next : i < length run
      → rest k run i ≡ cons_if (eqb (lower (get_or run i 0) / 4096) k) (lower (get_or run i 0) % 4096) (rest k run (i + 1))
  unfolding of_class
  rest_next h =
      let l : i < length (map lower run) = rw length-map h in
      rw (add-one i, drop-cons (map lower run) i 0 l, get_or-map lower run i 0)

  rest_yes : i < length run → lower (get_or run i 0) / 4096 ≡ k → rest k run i ≡ lower (get_or run i 0) % 4096 ∷ rest k run (i + 1)
  rest_yes h e = rest_next h ∙ ap (λ (b : Bool). cons_if b (lower (get_or run i 0) % 4096) (rest k run (i + 1))) (eq-eqb _ _ e)

  rest_no : i < length run → (lower (get_or run i 0) / 4096 ≡ k → ⊥) → rest k run i ≡ rest k run (i + 1)
  rest_no h e = rest_next h ∙ ap (λ (b : Bool). cons_if b (lower (get_or run i 0) % 4096) (rest k run (i + 1))) (ne_eqb _ _ e)

  rest_none : length run ≤ i → rest k run i ≡ []
  unfolding of_class
  rest_none h = let l : length (map lower run) ≤ i = rw length-map h in rw (drop_of_length-le (map lower run) l)

-- The loop: run₀ is the run at its start, p the next place, and class k is lifted up to place i.
pub record Lifting (k at : ℕ) (run₀ run : List ℕ) (p i : ℕ) : Type 0 where
  pub long : length run ≡ length run₀
  pub low : map lower run ≡ map lower run₀
  pub high : write (map upper run₀) at (of_class k (map lower run₀)) ≡ write (map upper run) p (rest k run i)
  pub place : at + length (of_class k (map lower run₀)) ≡ p + length (rest k run i)

module _ (k at : ℕ) (run₀ run : List ℕ) (p i : ℕ) (l : Lifting k at run₀ run p i) where
  -- where there is room for the class, there is for its next
  pub lifting_room : at + length (of_class k (map lower run₀)) ≤ length run₀
      → i < length run → lower (get_or run i 0) / 4096 ≡ k → p < length run
  lifting_room fits h e = omega (arith, ap length (rest_yes k run i h e), l.long, l.place)

  pub lifting_yes : i < length run → lower (get_or run i 0) / 4096 ≡ k
      → Lifting k at run₀ (stored run p (lower (get_or run i 0) % 4096)) (p + 1) (i + 1)
  unfolding write
  lifting_yes h e =
      let v = lower (get_or run i 0) % 4096 in
      record {
        long = length-set run p (lower (get_or run p 0) + 65536 * v) ∙ l.long;
        low = stored_lower run p v ∙ l.low;
        high = l.high ∙ rw (rest_yes k run i h e, stored_upper run p v, stored_lower run p v);
        place = l.place ∙ rw (stored_lower run p v) (omega (arith, ap length (rest_yes k run i h e)));
      }

  pub lifting_no : i < length run → (lower (get_or run i 0) / 4096 ≡ k → ⊥) → Lifting k at run₀ run p (i + 1)
  lifting_no h e =
      record {
        long = l.long;
        low = l.low;
        high = l.high ∙ ap (λ (r : List ℕ). write (map upper run) p r) (rest_no k run i h e);
        place = l.place ∙ ap (λ (r : List ℕ). p + length r) (rest_no k run i h e);
      }

  pub lifting_done : length run ≤ i → Lifted k at run₀ run p
  unfolding write
  lifting_done h =
      record {
        place = omega (arith, l.place, ap length (rest_none k run i h));
        low = l.low;
        high = sym (l.high ∙ ap (λ (r : List ℕ). write (map upper run) p r) (rest_none k run i h));
      }

-- One class after the other: run₀ is the run at the start, and from place p on what is left has still to be lifted.
pub record Along (run₀ run : List ℕ) (p : ℕ) (left : List ℕ) : Type 0 where
  pub low : map lower run ≡ map lower run₀
  pub high : write (map upper run₀) 0 (classes (map lower run₀)) ≡ write (map upper run) p left
  pub place : length (classes (map lower run₀)) ≡ p + length left

pub along : (run : List ℕ) → Along run run 0 (classes (map lower run))
along run = record { low = refl; high = refl; place = omega arith }

pub along_last : (run₀ run : List ℕ) (p : ℕ) (left : List ℕ) → Along run₀ run p left → Along run₀ run p (left ++ [])
along_last run₀ run p left a = rw (append-nil left) a

module _ (run₀ run : List ℕ) (p k : ℕ) (left : List ℕ) (a : Along run₀ run p (of_class k (map lower run₀) ++ left)) where
  pub along_room : length (classes (map lower run₀)) ≡ length run₀ → p + length (of_class k (map lower run)) ≤ length run
  along_room e =
      let n = ap length a.low in
      rw a.low
      (omega (arith, e, a.place, length-append (of_class k (map lower run₀)) left, length-map run lower, length-map run₀ lower, n))

  module _ (run' : List ℕ) (p' : ℕ) (l : Lifted k p run run' p') where
    pub along_place : p' ≡ p + length (of_class k (map lower run₀))
    along_place = l.place ∙ ap (λ (r : List ℕ). p + length (of_class k r)) a.low

    pub along_next : Along run₀ run' p' left
    along_next =
        record {
          low = l.low ∙ a.low;
          high =
              a.high
              ∙ sym (write_append (map upper run) p (of_class k (map lower run₀)) left)
              ∙ rw (along_place, l.high, a.low);
          place = omega (arith, a.place, along_place, length-append (of_class k (map lower run₀)) left);
        }

pub along_done : (run₀ run : List ℕ) (p : ℕ) → length (classes (map lower run₀)) ≡ length run₀ → Along run₀ run p [] → map upper run ≡ classes (map lower run₀)
unfolding write
along_done run₀ run p e a =
    let xs = classes (map lower run₀) in
    let u = map upper run₀ in
    let n : length xs ≡ length u = e ∙ sym (length-map run₀ upper) in
    sym a.high ∙ write_eq u 0 xs (omega arith)
    ∙ ap (λ (r : List ℕ). xs ++ r) (drop_of_length-le u {i = 0 + length xs} (omega arith))
    ∙ append-nil xs

-- ---- the five classes, of which the first is lifted, the first two, ..
module _ {r₀ r₁ : List ℕ} {p₁ : ℕ} (l : Lifted 0 0 r₀ r₁ p₁) where
  pub after_1 : Along r₀ r₁ p₁ (of_class 1 (map lower r₀) ++ (of_class 2 (map lower r₀) ++ (of_class 3 (map lower r₀) ++ of_class 4 (map lower r₀))))
  unfolding classes
  after_1 = along_next r₀ r₀ 0 0 _ (along r₀) r₁ p₁ l

  module _ {r₂ : List ℕ} {p₂ : ℕ} (l₂ : Lifted 1 p₁ r₁ r₂ p₂) where
    pub after_2 : Along r₀ r₂ p₂ (of_class 2 (map lower r₀) ++ (of_class 3 (map lower r₀) ++ of_class 4 (map lower r₀)))
    after_2 = along_next r₀ r₁ p₁ 1 _ after_1 r₂ p₂ l₂

    module _ {r₃ : List ℕ} {p₃ : ℕ} (l₃ : Lifted 2 p₂ r₂ r₃ p₃) where
      pub after_3 : Along r₀ r₃ p₃ (of_class 3 (map lower r₀) ++ of_class 4 (map lower r₀))
      after_3 = along_next r₀ r₂ p₂ 2 _ after_2 r₃ p₃ l₃

      module _ {r₄ : List ℕ} {p₄ : ℕ} (l₄ : Lifted 3 p₃ r₃ r₄ p₄) where
        pub after_4 : Along r₀ r₄ p₄ (of_class 4 (map lower r₀) ++ [])
        after_4 = along_last r₀ r₄ p₄ _ (along_next r₀ r₃ p₃ 3 _ after_3 r₄ p₄ l₄)

        module _ {r₅ : List ℕ} {p₅ : ℕ} (l₅ : Lifted 4 p₄ r₄ r₅ p₅) where
          pub all_lifted : length (classes (map lower r₀)) ≡ length r₀ → map upper r₅ ≡ classes (map lower r₀)
          all_lifted e = along_done r₀ r₅ p₅ e (along_next r₀ r₄ p₄ 4 _ after_4 r₅ p₅ l₅)

          pub all_counted : record { own = p₁; nw = p₂ - p₁; ne = p₃ - p₂; sw = p₄ - p₃; se = p₅ - p₄ } ≡ class_counts (map lower r₀)
          unfolding classes class_counts
          all_counted =
              let e₁ = along_place r₀ r₀ 0 0 _ (along r₀) r₁ p₁ l in
              let e₂ = along_place r₀ r₁ p₁ 1 _ after_1 r₂ p₂ l₂ in
              let e₃ = along_place r₀ r₂ p₂ 2 _ after_2 r₃ p₃ l₃ in
              let e₄ = along_place r₀ r₃ p₃ 3 _ after_3 r₄ p₄ l₄ in
              let e₅ = along_place r₀ r₄ p₄ 4 _ after_4 r₅ p₅ l₅ in
              let d₁ : p₁ ≡ length (of_class 0 (map lower r₀)) = omega arith in
              let d₂ : p₂ - p₁ ≡ length (of_class 1 (map lower r₀)) = omega arith in
              let d₃ : p₃ - p₂ ≡ length (of_class 2 (map lower r₀)) = omega arith in
              let d₄ : p₄ - p₃ ≡ length (of_class 3 (map lower r₀)) = omega arith in
              let d₅ : p₅ - p₄ ≡ length (of_class 4 (map lower r₀)) = omega arith in
              rw (d₅, d₄, d₃, d₂, d₁)
