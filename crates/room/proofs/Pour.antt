-- Laws of runs of elements written where they fit.
use Rattle.std.specs.Prelude.{Option, Some, None}
use Prim.Native.Nat.{ℕ, ◌+◌, ◌≤◌, ◌<◌}
use mathlib.Core.Path.{◌≡◌, refl, sym, ap, ◌∙◌}
use mathlib.Core.List.{List, [], ◌∷◌, ◌++◌, append_assoc}
use mathlib.Core.Logic.{⊎_elim}
use native.Mathlib.Omega.{arith}
use lib.ListN.{length, length-append}
use borrow.Author.Tests.{le-leb, lt-leb}
use Rattle.room.specs.Room.{write}
use Rattle.room.specs.Inner.Pour.{Wrote, put_of, then, pour, flat, ones}
use Rattle.room.proofs.Cases.{lt_or, both}
use Rattle.room.proofs.Write.{write_length, write_append}

module _ {A : Type 0} where
  pub put_fits : (vs : List A) (at : ℕ) (o : List A) → at + length vs ≤ length o
      → put_of vs at o ≡ (Some (at + length vs), write o at vs)
  unfolding put_of
  put_fits vs at o h = rw (le-leb (at + length vs) (length o) h)

  pub put_short : (vs : List A) (at : ℕ) (o : List A) → length o < at + length vs → put_of vs at o ≡ (None, o)
  unfolding put_of
  put_short vs at o h = rw (lt-leb (at + length vs) (length o) h)

  -- what an outcome tells
  pub put_past : (vs : List A) (at p : ℕ) (o o' : List A) → put_of vs at o ≡ (Some p, o')
      → (at + length vs ≤ length o) × (p ≡ at + length vs) × (o' ≡ write o at vs)
  put_past vs at p o o' e =
      ⊎_elim
      (λ (no : length o < at + length vs).
      let q = (both e (put_short vs at o no)).0 in let z : ◌≡◌ {A = ℕ} 0 1 = cc in absurd (omega arith))
      (λ (fits : at + length vs ≤ length o).
      let b = both e (put_fits vs at o fits) in
      let q = b.0 in
      let n : p ≡ at + length vs = cc in (fits, n, b.1))
      (lt_or (length o) (at + length vs))

  pub put_not : (vs : List A) (at : ℕ) (o o' : List A) → put_of vs at o ≡ (None, o')
      → (length o < at + length vs) × (o' ≡ o)
  put_not vs at o o' e =
      ⊎_elim
      (λ (no : length o < at + length vs). (no, (both e (put_short vs at o no)).1))
      (λ (fits : at + length vs ≤ length o).
      let q = (both e (put_fits vs at o fits)).0 in let z : ◌≡◌ {A = ℕ} 0 1 = cc in absurd (omega arith))
      (lt_or (length o) (at + length vs))

  -- what a match on an outcome learnt, put into it
  pub told : {x : Wrote A} {w w' : (Option ℕ)} {o : List A} → x ≡ (w, o) → w ≡ w' → x ≡ (w', o)
  told {o = o} e f = e ∙ ap (λ (w : (Option ℕ)). (w, o)) f

  pub then_go : (x : Wrote A) (f : ℕ → List A → Wrote A) (p : ℕ) (o : List A) → x ≡ (Some p, o) → then x f ≡ f p o
  unfolding then
  then_go x f p o e = rw e

  pub then_short : (x : Wrote A) (f : ℕ → List A → Wrote A) (o : List A) → x ≡ (None, o) → then x f ≡ (None, o)
  unfolding then
  then_short x f o e = rw e

  then_all : (x : Wrote A) → then x (λ p o. (Some p, o)) ≡ x
  unfolding then
  then_all (Some p, o) = refl
  then_all (None, o) = refl

  then_then : (x : Wrote A) (f g : ℕ → List A → Wrote A) → then (then x f) g ≡ then x (λ p o. then (f p o) g)
  unfolding then
  then_then (Some p, o) f g = refl
  then_then (None, o) f g = refl

  then_ext : (x : Wrote A) (f g : ℕ → List A → Wrote A) → ((p : ℕ) (o : List A) → f p o ≡ g p o) → then x f ≡ then x g
  unfolding then
  then_ext (Some p, o) f g h = h p o
  then_ext (None, o) f g h = refl

  pub pour_one : (g : List A) (at : ℕ) (o : List A) → pour (g ∷ []) at o ≡ put_of g at o
  unfolding pour
  pour_one g at o = then_all (put_of g at o)

  -- some runs, and then others
  pub pour_append : (gs hs : List (List A)) (at : ℕ) (o : List A)
      → pour (gs ++ hs) at o ≡ then (pour gs at o) (λ p o'. pour hs p o')
  unfolding pour then
  pour_append [] hs at o = refl
  pour_append (g ∷ gs) hs at o =
      then_ext (put_of g at o) (λ p o'. pour (gs ++ hs) p o') (λ p o'. then (pour gs p o') (λ p o'. pour hs p o'))
      (pour_append gs hs)
      ∙ sym (then_then (put_of g at o) (λ p o'. pour gs p o') (λ p o'. pour hs p o'))

  pub flat_append : (gs hs : List (List A)) → flat (gs ++ hs) ≡ flat gs ++ flat hs
  unfolding flat
  flat_append [] hs = refl
  flat_append (g ∷ gs) hs = ap (λ (r : List A). g ++ r) (flat_append gs hs) ∙ sym (append_assoc g (flat gs) (flat hs))

  -- runs that fit are written one after the other
  pub pour_fits : (gs : List (List A)) (at : ℕ) (o : List A) → at + length (flat gs) ≤ length o
      → pour gs at o ≡ (Some (at + length (flat gs)), write o at (flat gs))
  unfolding pour flat write
  pour_fits [] at o h = let e : at ≡ at + 0 = omega arith in ap (λ (n : ℕ). (Some n, o)) e
  pour_fits (g ∷ gs) at o h =
      let l = length-append g (flat gs) in
      let a : at + length (g ++ flat gs) ≡ at + length g + length (flat gs) = omega (arith, l) in
      then_go (put_of g at o) (λ p o'. pour gs p o') (at + length g) (write o at g) (put_fits g at o (omega (arith, a)))
      ∙ pour_fits gs (at + length g) (write o at g) (rw write_length (omega (arith, a)))
      ∙ rw (write_append o at g (flat gs)) (ap (λ (n : ℕ). (Some n, write o at (g ++ flat gs))) (sym a))

  pub flat_ones : (xs : List A) → flat (ones xs) ≡ xs
  unfolding flat ones
  flat_ones [] = refl
  flat_ones (x ∷ xs) = ap (λ (r : List A). x ∷ r) (flat_ones xs)

  -- the room keeps its length
  pub put_length : (vs : List A) (at : ℕ) (o : List A) → length (put_of vs at o).1 ≡ length o
  put_length vs at o =
      ⊎_elim (λ (no : length o < at + length vs). rw (put_short vs at o no))
      (λ (fits : at + length vs ≤ length o). rw (put_fits vs at o fits) (write_length o at vs))
      (lt_or (length o) (at + length vs))

  -- runs that do not fit come out short
  pub pour_short : (gs : List (List A)) (at : ℕ) (o : List A) → at ≤ length o → length o < at + length (flat gs)
      → (pour gs at o).0 ≡ None
  unfolding pour flat
  pour_short [] at o l h = absurd (omega arith)
  pour_short (g ∷ gs) at o l h =
      let a = length-append g (flat gs) in
      ⊎_elim
      (λ (no : length o < at + length g).
      ap (λ (y : Wrote A). y.0) (then_short (put_of g at o) (λ p o'. pour gs p o') o (put_short g at o no)))
      (λ (fits : at + length g ≤ length o).
      ap (λ (y : Wrote A). y.0)
      (then_go (put_of g at o) (λ p o'. pour gs p o') (at + length g) (write o at g) (put_fits g at o fits))
      ∙ pour_short gs (at + length g) (write o at g) (rw write_length fits) (rw write_length (omega (arith, a))))
      (lt_or (length o) (at + length g))

  -- so what came out past a place had fitted, and is written
  pub pour_past : (gs : List (List A)) (at p : ℕ) (o o' : List A) → at ≤ length o → pour gs at o ≡ (Some p, o')
      → (at + length (flat gs) ≤ length o) × (p ≡ at + length (flat gs)) × (o' ≡ write o at (flat gs))
  pour_past gs at p o o' l e =
      ⊎_elim
      (λ (no : length o < at + length (flat gs)).
      let q : Some p ≡ None = sym (ap (λ (y : Wrote A). y.0) e) ∙ pour_short gs at o l no in
      let z : ◌≡◌ {A = ℕ} 0 1 = cc in absurd (omega arith))
      (λ (fits : at + length (flat gs) ≤ length o).
      let b = both e (pour_fits gs at o fits) in
      let q = b.0 in
      let n : p ≡ at + length (flat gs) = cc in (fits, n, b.1))
      (lt_or (length o) (at + length (flat gs)))
