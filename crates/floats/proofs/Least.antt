-- `next_up_of` is IEEE 754's: for an x below +infinity it is the least float above x. Assumes nothing.
use mathlib.Core.Path.{◌≡◌, refl, sym, ap, ◌∙◌, subst}
use Prim.Native.Nat.{ℕ, suc, ◌+◌, ◌-◌, ◌≤◌, ◌<◌}
use native.Mathlib.Nat.{le_of_eq, le_antisymm}
use native.Mathlib.Omega.{arith}
use mathlib.Core.Bool.{Bool, true, false, cond, not}
use lib.Dec.{T, ltb, eqb}
use borrow.Author.Tests.{ltb-true, ltb-false, eqb-true, eqb-false, lt-ltb, le-ltb}
use lib.Ieee.{Float, nan, inf, binary64, is_nan, fits, of_bits, to_bits, lt, le, eq}
use lib.Ieee.Bits.{of_bits-to_bits, to_bits-of_bits, of_bits-fits}
use lib.Ieee.Fits.{nan-fits}
use Rattle.floats.specs.Next.{next_up_of, next_bits, LeastAbove}
use Rattle.floats.proofs.Keys.{INF, TOP, key, Plain, le_key, key_lt, lt_key, plain_bits, key_le, not_nan}
use Rattle.floats.proofs.Next.{elsewhere}
use Rattle.floats.proofs.Order.{eq_sym, lt_le, eq_le, le_left, le_right}

next_key : (n : ℕ) → Plain n → (n ≡ INF → ⊥) → Plain (next_bits n) × (key (next_bits n) ≡ suc (key n))
next_key n p ne = go (ltb n INF) (eqb n INF) (eqb n TOP) refl refl refl
  where
    up_at : (n : ℕ) → n < TOP → key n ≡ TOP + n
    up_at n h = rw (lt-ltb n TOP h)

    down-at : (n : ℕ) → TOP ≤ n → key n ≡ TOP + TOP - n
    down-at n h = rw (le-ltb n TOP h)

    go : (a b c : Bool) → ltb n INF ≡ a → eqb n INF ≡ b → eqb n TOP ≡ c
        → Plain (cond a (n + 1) (cond b n (cond c 1 (n - 1)))) × (key (cond a (n + 1) (cond b n (cond c 1 (n - 1)))) ≡ suc (key n))
    go true b c u v w =
        let h = ltb-true n INF u in
        ((omega arith, omega arith), rw (up_at (n + 1) (omega arith), up_at n (omega arith)) (omega arith))
    go false true c u v w = absurd (ne (eqb-true n INF v))
    go false false true u v w =
        let h = eqb-true n TOP w in
        ((omega arith, omega arith), rw (up_at 1 (omega arith), down-at n (omega arith)) (omega arith))
    go false false false u v w =
        let h = ltb-false n INF u in
        let k = eqb-false n TOP w in
        let l : TOP < n = omega (arith, p.0, p.1) in
        ((omega (arith, p.0), omega (arith, p.0, p.1)), rw (down-at (n - 1) (omega arith), down-at n (omega arith)) (omega (arith, p.0)))

nan_not_above : (x y : Float) → T (lt x y) → (is_nan y ≡ false) × (is_nan x ≡ false)
nan_not_above x y h = (le_right x y (lt_le x y h), le_left x y (lt_le x y h))

top_is : of_bits binary64 INF ≡ inf false
unfolding of_bits
top_is = refl

not_top : T (lt (inf false) (inf false)) → ⊥
unfolding lt
not_top h = h

-- one step up, on the pattern of an x below +infinity
step : (x : Float) → T (fits binary64 x) → T (lt x (inf false)) → Plain (next_bits (to_bits binary64 x)) × (key (next_bits (to_bits binary64 x)) ≡ suc (key (to_bits binary64 x)))
step x f h =
    next_key (to_bits binary64 x) (plain_bits x f (nan_not_above x (inf false) h).1)
    (λ e. not_top (subst (λ (z : Float). T (lt z (inf false))) (sym (of_bits-to_bits binary64 x f) ∙ ap (of_bits binary64) e ∙ top_is) h))

pub next_bits_lem : (x : Float) → T (fits binary64 x) → T (lt x (inf false)) → to_bits binary64 (next_up_of x) ≡ next_bits (to_bits binary64 x)
next_bits_lem x f h =
    let n = next_bits (to_bits binary64 x) in
    let k = (step x f h).0 in
    ap (to_bits binary64) (sym (elsewhere x (nan_not_above x (inf false) h).1)) ∙ to_bits-of_bits binary64 n k.0 (subst (λ (b : Bool). T (not b)) (sym (not_nan n k)) tt)

pub next_least : (x : Float) → T (fits binary64 x) → T (lt x (inf false)) → LeastAbove binary64 x (next_up_of x)
next_least x f h =
    let n = to_bits binary64 x in
    let xn = (nan_not_above x (inf false) h).1 in
    let p = plain_bits x f xn in
    let x-is : of_bits binary64 n ≡ x = of_bits-to_bits binary64 x f in
    let k = step x f h in
    let up_is : of_bits binary64 (next_bits n) ≡ next_up_of x = elsewhere x xn in
    record {
      above =
          subst (λ (z : Float). T (lt z (next_up_of x))) x-is
          (subst (λ (z : Float). T (lt (of_bits binary64 n) z)) up_is (lt_key n (next_bits n) p k.0 (le_of_eq (sym k.1))));
      least = λ y fy l.
          let m = to_bits binary64 y in
          let q = plain_bits y fy (nan_not_above x y l).0 in
          let y-is : of_bits binary64 m ≡ y = of_bits-to_bits binary64 y fy in
          let w : key n < key m = key_lt n m p q (subst (λ (z : Float). T (lt z (of_bits binary64 m))) (sym x-is) (subst (λ (z : Float). T (lt x z)) (sym y-is) l)) in
          subst (λ (z : Float). T (le z y)) up_is
          (subst (λ (z : Float). T (le (of_bits binary64 (next_bits n)) z)) y-is (le_key (next_bits n) m k.0 q (subst (λ (z : ℕ). z ≤ key m) (sym k.1) w)));
    }

-- ---- the place of a float among the floats: both zeros have one place
abbrev pub rank : Float → ℕ
rank x = key (to_bits binary64 x)

pub eq_rank : (x y : Float) → T (fits binary64 x) → T (fits binary64 y) → T (eq x y) → rank x ≡ rank y
eq_rank x y fx fy h =
    let l = eq_le x y h in
    let p = plain_bits x fx (le_left x y l) in
    let q = plain_bits y fy (le_right x y l) in
    let back : T (eq (of_bits binary64 (to_bits binary64 x)) (of_bits binary64 (to_bits binary64 y))) = rw (of_bits-to_bits binary64 x fx, of_bits-to_bits binary64 y fy) h in
    le_antisymm (key_le (to_bits binary64 x) (to_bits binary64 y) p q back)
    (key_le (to_bits binary64 y) (to_bits binary64 x) q p (eq_sym (of_bits binary64 (to_bits binary64 x)) (of_bits binary64 (to_bits binary64 y)) back))

pub next_rank : (x : Float) → T (fits binary64 x) → T (lt x (inf false)) → rank (next_up_of x) ≡ suc (rank x)
next_rank x f h = ap key (next_bits_lem x f h) ∙ (step x f h).1

pub next_fits : (x : Float) → T (fits binary64 (next_up_of x))
unfolding next_up_of
next_fits x = go (is_nan x)
  where
    go : (b : Bool) → T (fits binary64 (cond b nan (of_bits binary64 (next_bits (to_bits binary64 x)))))
    go true = nan-fits binary64
    go false = of_bits-fits binary64 (next_bits (to_bits binary64 x))
