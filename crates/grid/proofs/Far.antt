-- Points outside the segment's box: the test's answer needs no cross. Assumes nothing.
use Prim.Native.Nat.{ℕ, suc, ◌+◌, ◌*◌, ◌<◌, ◌≤◌}
use mathlib.Core.Path.{◌≡◌, refl, sym, ◌∙◌}
use mathlib.Core.Bool.{Bool, true, false, not, cond, ◌&&◌, ◌||◌, beq, true≢false, false≢true}
use native.Mathlib.Omega.{arith}
use native.Mathlib.Decide.{dec_le}
use native.Mathlib.Nat.{mul-le-mul_right}
use lib.Dec.{ltb, leb, eqb}
use lib.IntN.{ℤ}
use lib.Signed.{lt_z}
use borrow.Author.Tests.{lt-ltb, le-ltb, ltb-true, ltb-false, lt-leb, le-leb}
use Rattle.rings.proofs.Whole.{lt_shift, le_shift, shifted}
use Rattle.grid.specs.declared.GridResult.TheVariants.{Flips, Passes}
use Rattle.grid.specs.Grid.{between, in_box, straddles, result_of}
use Rattle.grid.proofs.Shift.{from, plus, minus, between_n, straddles_n, on_n, flip_n, on_shift, flip_shift, plane}

and-false : (a : Bool) → (a && false) ≡ false
and-false true = refl
and-false false = refl

and-true : (a : Bool) → (a && true) ≡ a
and-true true = refl
and-true false = refl

-- the sign of cross where a is not above p and b is: below 0 right of both ends, above 0 left of both
module _ (ax ay bx by px py : ℕ) (l : ay ≤ py) (h : py < by) where
  right_rising : ax < px → bx < px → plus ax ay bx by px py < minus ax ay bx by px py
  right_rising ha hb =
      from (λ by. plus ax ay bx by px py < minus ax ay bx by px py) (suc py) by h λ v.
      from (λ py. plus ax ay bx (suc py + v) px py < minus ax ay bx (suc py + v) px py) ay py l λ u.
      from (λ px. bx < px → plus ax ay bx (suc (ay + u) + v) px (ay + u) < minus ax ay bx (suc (ay + u) + v) px (ay + u)) (suc ax) px ha
      (λ e k. let m : bx * u ≤ (ax + e) * u = mul-le-mul_right u (omega arith) in omega arith) hb

  left_rising : px < ax → px < bx → minus ax ay bx by px py < plus ax ay bx by px py
  left_rising ha hb =
      from (λ by. minus ax ay bx by px py < plus ax ay bx by px py) (suc py) by h λ v.
      from (λ py. minus ax ay bx (suc py + v) px py < plus ax ay bx (suc py + v) px py) ay py l λ u.
      from (λ ax. minus ax ay bx (suc (ay + u) + v) px (ay + u) < plus ax ay bx (suc (ay + u) + v) px (ay + u)) (suc px) ax ha λ e.
      from (λ bx. minus (suc px + e) ay bx (suc (ay + u) + v) px (ay + u) < plus (suc px + e) ay bx (suc (ay + u) + v) px (ay + u)) (suc px) bx hb λ f.
      omega arith

-- a sign that goes by which end is above: the two tests of a flip
by_heights : (ay by py : ℕ) (t s : Bool) → (ay ≤ py → py < by → t ≡ s) → (by ≤ py → py < ay → t ≡ not s) → (straddles_n ay by py && beq t (ltb ay by)) ≡ (straddles_n ay by py && s)
by_heights ay by py t s up down = go (ltb py ay) (ltb py by) refl refl
  where
    same : (t s : Bool) → t ≡ s → beq t true ≡ s
    same true s e = e
    same false s e = e

    other : (t s : Bool) → t ≡ not s → beq t false ≡ s
    other t true e = rw e
    other t false e = rw e

    go : (a b : Bool) → ltb py ay ≡ a → ltb py by ≡ b → (straddles_n ay by py && beq t (ltb ay by)) ≡ (straddles_n ay by py && s)
    go true true ea eb = rw (ea, eb)
    go true false ea eb = let h : py < ay = ltb-true py ay ea in let l : by ≤ py = ltb-false py by eb in
        rw (ea, eb, le-ltb ay by (omega arith)) (other t s (down l h))
    go false true ea eb = let h : py < by = ltb-true py by eb in let l : ay ≤ py = ltb-false py ay ea in
        rw (ea, eb, lt-ltb ay by (omega arith)) (same t s (up l h))
    go false false ea eb = rw (ea, eb)

module _ (ax ay bx by px py : ℕ) where
  right_flips : ax < px → bx < px → flip_n ax ay bx by px py ≡ false
  right_flips ha hb =
      by_heights ay by py (ltb (minus ax ay bx by px py) (plus ax ay bx by px py)) false
      (λ l h. le-ltb (minus ax ay bx by px py) (plus ax ay bx by px py) (omega (arith, right_rising ax ay bx by px py l h ha hb)))
      (λ l h. lt-ltb (minus ax ay bx by px py) (plus ax ay bx by px py) (omega (arith, right_rising bx by ax ay px py l h hb ha)))
      ∙ and-false (straddles_n ay by py)

  left_flips : px < ax → px < bx → flip_n ax ay bx by px py ≡ straddles_n ay by py
  left_flips ha hb =
      by_heights ay by py (ltb (minus ax ay bx by px py) (plus ax ay bx by px py)) true
      (λ l h. lt-ltb (minus ax ay bx by px py) (plus ax ay bx by px py) (omega (arith, left_rising ax ay bx by px py l h ha hb)))
      (λ l h. le-ltb (minus ax ay bx by px py) (plus ax ay bx by px py) (omega (arith, left_rising bx by ax ay px py l h hb ha)))
      ∙ and-true (straddles_n ay by py)

-- p on one side of both ends is not between them
below_both : (a b p : ℕ) → p < a → p < b → between_n a b p ≡ false
below_both a b p ha hb = rw (lt-leb a p ha, lt-leb b p hb)

above_both : (a b p : ℕ) → a < p → b < p → between_n a b p ≡ false
above_both a b p ha hb = rw (lt-leb p a ha, lt-leb p b hb, and-false (leb a p), and-false (leb b p))

off_x : (c x y : Bool) → x ≡ false → (c && (x && y)) ≡ false
off_x c x y e = rw e (and-false c)

off_y : (c x y : Bool) → y ≡ false → (c && (x && y)) ≡ false
off_y c x y e = rw (e, and-false x) (and-false c)

-- what a test made of others tells
any : {P : Type 0} (a b c : Bool) → (a ≡ true → P) → (b ≡ true → P) → (c ≡ true → P) → (a || b || c) ≡ true → P
any true b c f g h e = f refl
any false true c f g h e = g refl
any false false c f g h e = h e

all : {P : Type 0} (a b : Bool) → (a ≡ true → b ≡ true → P) → (a && b) ≡ true → P
all true b f e = f refl e
all false b f e = absurd (false≢true e)

module _ (ax ay bx by px py : ℕ) where
  abbrev Neither : Type 0
  Neither = (on_n ax ay bx by px py ≡ false) × (flip_n ax ay bx by px py ≡ false)

  off_width : between_n ax bx px ≡ false → on_n ax ay bx by px py ≡ false
  off_width e = off_x (eqb (plus ax ay bx by px py) (minus ax ay bx by px py)) (between_n ax bx px) (between_n ay by py) e

  off_height : between_n ay by py ≡ false → on_n ax ay bx by px py ≡ false
  off_height e = off_y (eqb (plus ax ay bx by px py) (minus ax ay bx by px py)) (between_n ax bx px) (between_n ay by py) e

  outside_n : (ltb py ay && ltb py by || ltb ay py && ltb by py || ltb ax px && ltb bx px) ≡ true → Neither
  outside_n =
      any (ltb py ay && ltb py by) (ltb ay py && ltb by py) (ltb ax px && ltb bx px)
      (all (ltb py ay) (ltb py by) λ s t. (off_height (below_both ay by py (ltb-true py ay s) (ltb-true py by t)), rw (s, t)))
      (all (ltb ay py) (ltb by py) λ s t. let l : ay < py = ltb-true ay py s in let h : by < py = ltb-true by py t in
      (off_height (above_both ay by py l h), rw (le-ltb py ay (omega arith), le-ltb py by (omega arith))))
      (all (ltb ax px) (ltb bx px) λ s t. let l : ax < px = ltb-true ax px s in let h : bx < px = ltb-true bx px t in
      (off_width (above_both ax bx px l h), right_flips ax ay bx by px py l h))

  left_n : (ltb px ax && ltb px bx) ≡ true → (on_n ax ay bx by px py ≡ false) × (flip_n ax ay bx by px py ≡ straddles_n ay by py)
  left_n =
      all (ltb px ax) (ltb px bx) λ s t. let l : px < ax = ltb-true px ax s in let h : px < bx = ltb-true px bx t in
      (off_width (below_both ax bx px l h), left_flips ax ay bx by px py l h)

-- the tests of the code: p is below, above or right of both ends; p is left of both ends
abbrev pub outside : ℤ → ℤ → ℤ → ℤ → ℤ → ℤ → Bool
outside ax ay bx by px py = lt_z py ay && lt_z py by || lt_z ay py && lt_z by py || lt_z ax px && lt_z bx px

abbrev pub leftward : ℤ → ℤ → ℤ → Bool
leftward ax bx px = lt_z px ax && lt_z px bx

module _ (ax ay bx by px py : ℤ) where
  pub outside_passes : outside ax ay bx by px py ≡ true → result_of ax ay bx by px py ≡ Passes
  outside_passes =
      plane (λ ax ay bx by px py. outside ax ay bx by px py ≡ true → result_of ax ay bx by px py ≡ Passes)
      (λ o w ax ay bx by px py e. let r = outside_n ax ay bx by px py (simp lt_shift at e) in
      rw (on_shift o w ax ay bx by px py, flip_shift o w ax ay bx by px py, r.0, r.1))
      ax ay bx by px py

  pub left_result : leftward ax bx px ≡ true → result_of ax ay bx by px py ≡ cond (straddles ay by py) Flips Passes
  left_result =
      plane (λ ax ay bx by px py. leftward ax bx px ≡ true → result_of ax ay bx by px py ≡ cond (straddles ay by py) Flips Passes)
      (λ o w ax ay bx by px py e. let r = left_n ax ay bx by px py (simp lt_shift at e) in
      rw (on_shift o w ax ay bx by px py, flip_shift o w ax ay bx by px py, r.0, r.1) (simp lt_shift))
      ax ay bx by px py

-- p on neither side of both ends is between them
among_n : (a b p : ℕ) → (ltb p a && ltb p b) ≡ false → (ltb a p && ltb b p) ≡ false → between_n a b p ≡ true
among_n a b p below above =
    elim (dec_le a p) [
      | yes l ↦ elim (dec_le p b) [
        | yes h ↦ rw (le-leb a p l, le-leb p b h)
        | no h ↦ let k : p ≤ a = ltb-false a p (sym (and-true (ltb a p)) ∙ rw (lt-ltb b p (omega arith)) at above) in
            rw (le-leb a p l, lt-leb p b (omega arith), le-leb b p (omega arith), le-leb p a k)
      ]
      | no h ↦ let k : b ≤ p = ltb-false p b (rw (lt-ltb p a (omega arith)) at below) in
          rw (lt-leb a p (omega arith), le-leb b p k, le-leb p a (omega arith))
    ]

among : (a b p : ℤ) → (lt_z p a && lt_z p b) ≡ false → (lt_z a p && lt_z b p) ≡ false → between a b p ≡ true
among =
    shifted (λ a b p. (lt_z p a && lt_z p b) ≡ false → (lt_z a p && lt_z b p) ≡ false → between a b p ≡ true)
    λ o a b p below above. simp le_shift (among_n a b p (simp lt_shift at below) (simp lt_shift at above))

none : {P : Type 0} (a b c : Bool) → (a ≡ false → b ≡ false → c ≡ false → P) → (a || b || c) ≡ false → P
none true b c f e = absurd (true≢false e)
none false true c f e = absurd (true≢false e)
none false false c f e = f refl refl e

pub near_box : (ax ay bx by px py : ℤ) → outside ax ay bx by px py ≡ false → leftward ax bx px ≡ false → in_box ax ay bx by px py ≡ true
near_box ax ay bx by px py e l =
    none (lt_z py ay && lt_z py by) (lt_z ay py && lt_z by py) (lt_z ax px && lt_z bx px)
    (λ below above right. rw (among ax bx px l right, among ay by py below above)) e
