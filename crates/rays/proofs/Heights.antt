-- A segment whose closed height range does not hold p.y says neither, so that testing the listed segments is testing all of them.
-- An infinite p.x is left out: a level segment takes it for a point on its line, by step 4. Assumes nothing.
use mathlib.Core.Path.{◌≡◌, refl, sym, ap, ◌∙◌, subst}
use Prim.Native.Nat.{ℕ, ◌^◌, ◌≤◌, ◌<◌}
use native.Mathlib.Nat.{le_of_eq, le_of_lt}
use native.Mathlib.Omega.{arith}
use mathlib.Core.Bool.{Bool, true, false, ◌&&◌, ◌||◌, and-false, true≢false}
use lib.Dec.{T, ltb, leb, eqb}
use lib.IntN.{nat_abs}
use borrow.Author.Tests.{ltb-true, ltb-false, le-leb, lt-ltb, le-ltb, ne_eqb, eqb-true, eqb-false, eq-eqb}
use lib.Ieee.{Float, nan, inf, fin, binary64, fits, eq, ne, lt}
use lib.Ieee.Scale.{finite}
use Rattle.boxes.specs.declared.Point.{Point}
use Rattle.boxes.specs.declared.Segment.{Segment}
use Rattle.boxes.specs.Segments.{point_of}
use Rattle.boxes.proofs.Segments.{Stored}
use Rattle.floats.proofs.Least.{rank}
use Rattle.floats.proofs.Ranks.{Number, lt_is, le_is, eq_is}
use Rattle.rays.specs.declared.RaycastResult.{RaycastResult}
use Rattle.rays.specs.declared.RaycastResult.TheVariants.{Neither}
use Rattle.rays.specs.Raycast.{at, lift, outside, within, quotient, first_steps, last_steps, cast_of, raycast_of}
use Rattle.rays.proofs.Halves.{near, whole_number}
use Rattle.rays.proofs.Quotients.{first_finite, second_not_finite}

-- ---- k is not in the closed range of i and j
or_r : (a b : Bool) → (a || b) ≡ false → b ≡ false
or_r true b h = absurd (true≢false h)
or_r false b h = h

module _ (i j k : ℕ) (h : (leb i k && leb k j || leb j k && leb k i) ≡ false) where
  rising : i ≤ k → k ≤ j → ⊥
  rising p q = true≢false (rw (le-leb i k p, le-leb k j q) at h)

  falling : j ≤ k → k ≤ i → ⊥
  falling p q = true≢false (rw (le-leb j k p, le-leb k i q) at (or_r (leb i k && leb k j) (leb j k && leb k i) h))

  beyond : (i ≡ j → ⊥) → (ltb k i && ltb k j || ltb i k && ltb j k) ≡ true
  beyond n = go (ltb k i) (ltb k j) refl refl
    where
      strict : (a b : ℕ) → a ≤ b → (a ≡ b → ⊥) → a < b
      strict a b p q = omega (arith, q)

      go : (x y : Bool) → ltb k i ≡ x → ltb k j ≡ y → (x && y || ltb i k && ltb j k) ≡ true
      go true true p q = refl
      go true false p q = absurd (falling (ltb-false k j q) (le_of_lt (ltb-true k i p)))
      go false true p q = absurd (rising (ltb-false k i p) (le_of_lt (ltb-true k j q)))
      go false false p q =
          let a = ltb-false k i p in
          let b = ltb-false k j q in
          rw (lt-ltb i k (strict i k a (λ e. falling b (le_of_eq (sym e)))), lt-ltb j k (strict j k b (λ e. rising a (le_of_eq (sym e)))))

-- ---- the two ways to miss
different_heights : (a b p : Point) → eq a.y b.y ≡ false → outside a.y b.y p.y ≡ true → cast_of a b p ≡ Neither
unfolding first_steps ne
different_heights a b p e h = simp (e, h)

not_on : (x y : Float) → T (finite x) → finite y ≡ false → eq x y ≡ false
unfolding eq
not_on nan y h k = absurd h
not_on (inf s) y h k = absurd h
not_on (fin s m e) nan h k = refl
not_on (fin s m e) (inf t) h k = refl
not_on (fin s m e) (fin t n d) h k = absurd (true≢false k)

module _ (a b p : Point) (e : eq a.y b.y ≡ true) (f : eq p.y a.y ≡ false) where
  one_point : (later : RaycastResult) → eq a.x b.x ≡ true → first_steps a b p later ≡ Neither
  unfolding first_steps ne
  one_point later r = simp (e, r, f, and-false)

  not_level : (later : RaycastResult) → eq a.x b.x ≡ false → eq (quotient p.x a.x b.x a.x) (quotient p.y a.y b.y a.y) ≡ false → first_steps a b p later ≡ later
  unfolding first_steps ne
  not_level later r q = simp (e, r, f, q)

leaves : (a b : Point) (x y : Float) → lt a.y b.y ≡ false → (lt y b.y || lt a.y y) ≡ true → last_steps a b (at x y) ≡ Neither
unfolding last_steps
leaves a b x y l o = simp (l, o)

stays : (a b y : Float) → eq y a ≡ false → eq y b ≡ false → lift a b y ≡ y
stays a b y f g = simp (f, g)

-- ---- by the places of the three heights among the floats
eq_flip : (x y : Float) → Number x → Number y → eq x y ≡ eq y x
eq_flip x y p q = eq_is x y p q ∙ flip (rank x) (rank y) ∙ sym (eq_is y x q p)
  where
    flip : (i j : ℕ) → eqb i j ≡ eqb j i
    flip i j = go (eqb i j) refl
      where
        go : (t : Bool) → eqb i j ≡ t → t ≡ eqb j i
        go true e = sym (eq-eqb j i (sym (eqb-true i j e)))
        go false e = sym (ne_eqb j i (λ q. eqb-false i j e (sym q)))

module _ (a b p : Point) (na : Number a.y) (nb : Number b.y) (np : Number p.y) (h : within a.y b.y p.y ≡ false) where
  ranked : (leb (rank a.y) (rank p.y) && leb (rank p.y) (rank b.y) || leb (rank b.y) (rank p.y) && leb (rank p.y) (rank a.y)) ≡ false
  ranked = rw (le_is a.y p.y na np, le_is p.y b.y np nb, le_is b.y p.y nb np, le_is p.y a.y np na) at h

  apart : eq a.y b.y ≡ false → cast_of a b p ≡ Neither
  apart e =
      let n = eqb-false (rank a.y) (rank b.y) (sym (eq_is a.y b.y na nb) ∙ e) in
      different_heights a b p e
      (rw (lt_is p.y a.y np na, lt_is p.y b.y np nb, lt_is a.y p.y na np, lt_is b.y p.y nb np) (beyond (rank a.y) (rank b.y) (rank p.y) ranked n))

  level : eq a.y b.y ≡ true → (eq a.x b.x ≡ false → eq (quotient p.x a.x b.x a.x) (quotient p.y a.y b.y a.y) ≡ false) → cast_of a b p ≡ Neither
  level e q = go (eq a.x b.x) refl
    where
      i : rank a.y ≡ rank b.y
      i = eqb-true (rank a.y) (rank b.y) (sym (eq_is a.y b.y na nb) ∙ e)

      n : rank p.y ≡ rank a.y → ⊥
      n k = rising (rank a.y) (rank b.y) (rank p.y) ranked (le_of_eq (sym k)) (le_of_eq (k ∙ i))

      f : eq p.y a.y ≡ false
      f = eq_is p.y a.y np na ∙ ne_eqb (rank p.y) (rank a.y) n

      g : eq p.y b.y ≡ false
      g = eq_is p.y b.y np nb ∙ ne_eqb (rank p.y) (rank b.y) (λ k. n (k ∙ sym i))

      l : lt a.y b.y ≡ false
      l = lt_is a.y b.y na nb ∙ le-ltb (rank a.y) (rank b.y) (le_of_eq (sym i))

      side : (x y z : ℕ) → y ≡ x → (z ≡ y → ⊥) → (ltb z x || ltb y z) ≡ true
      side x y z u v = pick (ltb z x) refl
        where
          pick : (t : Bool) → ltb z x ≡ t → (t || ltb y z) ≡ true
          pick true w = refl
          pick false w = lt-ltb y z (omega (arith, v, ltb-false z x w))

      o : (lt p.y b.y || lt a.y p.y) ≡ true
      o = rw (lt_is p.y b.y np nb, lt_is a.y p.y na np) (side (rank b.y) (rank a.y) (rank p.y) i n)

      go : (t : Bool) → eq a.x b.x ≡ t → cast_of a b p ≡ Neither
      go true r = one_point a b p e f (last_steps a b (at p.x (lift a.y b.y p.y))) r
      go false r =
          not_level a b p e f (last_steps a b (at p.x (lift a.y b.y p.y))) r (q r)
          ∙ ap (λ (y : Float). last_steps a b (at p.x y)) (stays a.y b.y p.y f g)
          ∙ leaves a b p.x p.y l o

-- ---- of a stored segment: `within` of its heights is what holds y in its closed height range
pub out_of_range : (s : Segment) (p : Point) → Stored s → T (fits binary64 p.x) → T (finite p.x) → Number p.y
    → within (point_of s.a).y (point_of s.b).y p.y ≡ false → raycast_of s p ≡ Neither
unfolding raycast_of
out_of_range s p z f x y h = go (eq (point_of s.a).y (point_of s.b).y) refl
  where
    ax : nat_abs s.a.x < 2 ^ 52
    ax = near s.a.x z.ax

    bx : nat_abs s.b.x < 2 ^ 52
    bx = near s.b.x z.bx

    a-height : Number (point_of s.a).y
    a-height = whole_number s.a.y (near s.a.y z.ay)

    b-height : Number (point_of s.b).y
    b-height = whole_number s.b.y (near s.b.y z.by)

    go : (t : Bool) → eq (point_of s.a).y (point_of s.b).y ≡ t → raycast_of s p ≡ Neither
    go false e = apart (point_of s.a) (point_of s.b) p a-height b-height y h e
    go true e =
        level (point_of s.a) (point_of s.b) p a-height b-height y h e
        (λ k. not_on (quotient p.x (point_of s.a).x (point_of s.b).x (point_of s.a).x) (quotient p.y (point_of s.a).y (point_of s.b).y (point_of s.a).y)
        (first_finite s.a.x s.b.x ax bx p.x f x (sym (eq_flip (point_of s.a).x (point_of s.b).x (whole_number s.a.x ax) (whole_number s.b.x bx)) ∙ k))
        (second_not_finite p.y (point_of s.a).y (point_of s.b).y (point_of s.a).y (subst T (sym (sym (eq_flip (point_of s.a).y (point_of s.b).y a-height b-height) ∙ e)) tt)))
