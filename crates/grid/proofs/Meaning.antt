-- "On" exactly when p lies on the closed segment. Assumes nothing.
use Prim.Native.Nat.{ℕ, zero, suc, ◌+◌, ◌*◌, ◌<◌, ◌≤◌}
use mathlib.Core.Path.{◌≡◌, refl, sym, ap, ap₂, ◌∙◌}
use mathlib.Core.Bool.{Bool, true, false, ◌&&◌, ◌||◌}
use native.Mathlib.Omega.{arith}
use native.Mathlib.Decide.{dec_le, ℕ_discrete}
use native.Mathlib.Nat.{mul-le-mul_left, eq_of_mul-eq-mul_left, le_of_mul-le-mul_left}
use lib.Dec.{eqb, leb}
use lib.IntN.{ℤ, pos, ◌-ℤ◌, ◌*ℤ◌}
use borrow.Author.Tests.{eqb-true, eq-eqb, le-leb}
use Rattle.rings.proofs.Whole.{diff, diff_pos, diff_same, diff_inj, diff_sub, diff_mul}
use Rattle.rings.proofs.Checks.{both}
use Rattle.grid.specs.Grid.{is_on}
use Rattle.grid.specs.Meaning.{LiesOn}
use Rattle.grid.proofs.Shift.{from, plus, minus, between_n, on_n, on_shift, plane}
use Rattle.grid.proofs.Within.{between_cases}

-- parts (p - a) = part (b - a), over ℕ
abbrev Step : ℕ → ℕ → ℕ → ℕ → ℕ → Type 0
Step part parts a b p = parts * p + part * a ≡ part * b + parts * a

record LiesN (ax ay bx by px py : ℕ) : Type 0 where
  part : ℕ
  parts : ℕ
  some : 0 < parts
  within : part ≤ parts
  across : Step part parts ax bx px
  along : Step part parts ay by py

-- where the ends differ in the first coordinate, its distance is the number of steps
driven : (a c b d p q : ℕ) → (a ≡ b → ⊥) → between_n a b p ≡ true → plus a c b d p q ≡ minus a c b d p q → LiesN a c b d p q
driven a c b d p q ne among e =
    between_cases a b p
    (λ l h. from (λ b. (a ≡ b → ⊥) → plus a c b d p q ≡ minus a c b d p q → LiesN a c b d p q) p b h
    (λ m. from (λ p. (a ≡ p + m → ⊥) → plus a c (p + m) d p q ≡ minus a c (p + m) d p q → LiesN a c (p + m) d p q) a p l
    (λ j ne e. record { part = j; parts = j + m; some = steps a j m ne; within = omega arith; across = omega arith; along = omega arith })) ne e)
    (λ l h. from (λ a. (a ≡ b → ⊥) → plus a c b d p q ≡ minus a c b d p q → LiesN a c b d p q) p a h
    (λ m. from (λ p. (p + m ≡ b → ⊥) → plus (p + m) c b d p q ≡ minus (p + m) c b d p q → LiesN (p + m) c b d p q) b p l
    (λ j ne e. record { part = m; parts = j + m; some = steps b j m (λ q. ne (sym q)); within = omega arith; across = omega arith; along = omega arith })) ne e)
    among
  where
    steps : (z j m : ℕ) → (z ≡ z + j + m → ⊥) → 0 < j + m
    steps z zero zero ne = absurd (ne (omega arith))
    steps z zero (suc m) ne = omega arith
    steps z (suc j) m ne = omega arith

-- one and the same end: p is that
same_end : (a p : ℕ) → between_n a a p ≡ true → p ≡ a
same_end a p = between_cases a a p (λ l h. omega arith) (λ l h. omega arith)

on_lies_n : (ax ay bx by px py : ℕ) → on_n ax ay bx by px py ≡ true → LiesN ax ay bx by px py
on_lies_n ax ay bx by px py t =
    let s = both (eqb (plus ax ay bx by px py) (minus ax ay bx by px py)) (between_n ax bx px && between_n ay by py) t in
    let box = both (between_n ax bx px) (between_n ay by py) s.1 in
    let e = eqb-true (plus ax ay bx by px py) (minus ax ay bx by px py) s.0 in
    elim (ℕ_discrete ax bx) [
      | no ne ↦ driven ax ay bx by px py ne box.0 e
      | yes same ↦ elim (ℕ_discrete ay by) [
        | no ne ↦ let l = driven ay ax by bx py px ne box.1 (omega arith) in
            record { part = l.part; parts = l.parts; some = l.some; within = l.within; across = l.along; along = l.across }
        | yes same' ↦ let x = same_end ax px (rw (← same) at box.0) in let y = same_end ay py (rw (← same') at box.1) in
            record { part = 0; parts = 1; some = omega arith; within = omega arith; across = omega arith; along = omega arith }
      ]
    ]

-- the same with the ends and the parts exchanged is less
exchange : (part parts a b : ℕ) → part ≤ parts → a ≤ b → part * b + parts * a ≤ parts * b + part * a
exchange part parts a b h l =
    from (λ b. part * b + parts * a ≤ parts * b + part * a) a b l
    (λ k. from (λ parts. part * (a + k) + parts * a ≤ parts * (a + k) + part * a) part parts h (λ j. omega arith))

or-true : (t : Bool) → (t || true) ≡ true
or-true true = refl
or-true false = refl

-- a coordinate of a point on the segment is between those of the ends
step_between : (part parts a b p : ℕ) → 0 < parts → part ≤ parts → Step part parts a b p → between_n a b p ≡ true
step_between part parts a b p some within e =
    elim (dec_le a b) [
      | yes l ↦
          let low : a ≤ p = le_of_mul-le-mul_left (let m = mul-le-mul_left part l in omega arith) some in
          let high : p ≤ b = le_of_mul-le-mul_left (let m = exchange part parts a b within l in omega arith) some in
          rw (le-leb a p low, le-leb p b high)
      | no l ↦
          let k : b ≤ a = omega arith in
          let low : b ≤ p = le_of_mul-le-mul_left (let m = exchange part parts b a within k in omega arith) some in
          let high : p ≤ a = le_of_mul-le-mul_left (let m = mul-le-mul_left part k in omega arith) some in
          rw (le-leb b p low, le-leb p a high) (or-true (leb a p && leb p b))
    ]

lies_on_n : (ax ay bx by px py : ℕ) → LiesN ax ay bx by px py → on_n ax ay bx by px py ≡ true
lies_on_n ax ay bx by px py l =
    rw (eq-eqb (plus ax ay bx by px py) (minus ax ay bx by px py) level, step_between l.part l.parts ax bx px l.some l.within l.across, step_between l.part l.parts ay by py l.some l.within l.along)
  where
    level : plus ax ay bx by px py ≡ minus ax ay bx by px py
    level =
        let t = l.part in let d = l.parts in
        let xa = ap (λ (k : ℕ). k * ay) l.across in
        let xb = ap (λ (k : ℕ). k * by) l.across in
        let ya = ap (λ (k : ℕ). k * ax) l.along in
        let yb = ap (λ (k : ℕ). k * bx) l.along in
        eq_of_mul-eq-mul_left l.parts l.some (plus ax ay bx by px py) (minus ax ay bx by px py) (omega arith)

-- the steps of a coordinate, in ℤ and in ℕ
times : (d p a o : ℕ) → pos d *ℤ (diff p o -ℤ diff a o) ≡ diff (d * p) (d * a)
times d p a o =
    ap₂ ◌*ℤ◌ (sym (diff_pos d 0 d (omega arith))) (diff_sub p o a o)
    ∙ diff_mul d 0 (p + o) (o + a)
    ∙ diff_same (d * (p + o) + 0 * (o + a)) (d * (o + a) + 0 * (p + o)) (d * p) (d * a) (omega arith)

module _ (o part parts a b p : ℕ) where
  to_ℤ : Step part parts a b p → pos parts *ℤ (diff p o -ℤ diff a o) ≡ pos part *ℤ (diff b o -ℤ diff a o)
  to_ℤ e = times parts p a o ∙ diff_same (parts * p) (parts * a) (part * b) (part * a) e ∙ sym (times part b a o)

  to_ℕ : pos parts *ℤ (diff p o -ℤ diff a o) ≡ pos part *ℤ (diff b o -ℤ diff a o) → Step part parts a b p
  to_ℕ e = diff_inj (parts * p) (parts * a) (part * b) (part * a) (sym (times parts p a o) ∙ e ∙ times part b a o)

module _ (ax ay bx by px py : ℤ) where
  -- a point that the formula calls "on" lies on the closed segment
  pub on_lies : is_on ax ay bx by px py ≡ true → LiesOn ax ay bx by px py
  on_lies =
      plane (λ ax ay bx by px py. is_on ax ay bx by px py ≡ true → LiesOn ax ay bx by px py)
      (λ o w ax ay bx by px py e. let l = on_lies_n ax ay bx by px py (rw (on_shift o w ax ay bx by px py) at e) in
      record {
        part = l.part;
        parts = l.parts;
        some = l.some;
        within = l.within;
        across = to_ℤ o l.part l.parts ax bx px l.across;
        along = to_ℤ w l.part l.parts ay by py l.along;
      })
      ax ay bx by px py

  -- and a point on the closed segment is "on"
  pub lies_on : LiesOn ax ay bx by px py → is_on ax ay bx by px py ≡ true
  lies_on =
      plane (λ ax ay bx by px py. LiesOn ax ay bx by px py → is_on ax ay bx by px py ≡ true)
      (λ o w ax ay bx by px py l. rw (on_shift o w ax ay bx by px py)
      (lies_on_n ax ay bx by px py (record {
        part = l.part;
        parts = l.parts;
        some = l.some;
        within = l.within;
        across = to_ℕ o l.part l.parts ax bx px l.across;
        along = to_ℕ w l.part l.parts ay by py l.along;
      })))
      ax ay bx by px py
