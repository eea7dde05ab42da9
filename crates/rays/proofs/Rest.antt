-- Step 5's loop ends, after at most one move, where the ends are whole numbers of size below 2 ^ 52; where it rests is one place only. So the eight
-- steps have an answer, and one only. Assumes nothing.
use Rattle.std.specs.Prelude.{if◌then◌else◌}
use mathlib.Core.Path.{◌≡◌, refl, sym, ap, ◌∙◌, subst}
use mathlib.Core.Logic.{inl, inr}
use Prim.Native.Nat.{ℕ, suc, ◌^◌, ◌≤◌, ◌<◌}
use native.Mathlib.Omega.{arith}
use mathlib.Core.Bool.{Bool, true, false, true≢false}
use lib.Dec.{T}
use lib.IntN.{ℤ, nat_abs}
use lib.Ieee.{Float, nan, inf, fin, binary64, eq, lt, fits, of_int}
use lib.Ieee.Fits.{of_int-fits}
use lib.Ieee.Exact.{HasValue}
use Rattle.boxes.specs.declared.Point.{Point}
use Rattle.boxes.specs.declared.Segment.{Segment}
use Rattle.boxes.specs.Segments.{point_of}
use Rattle.floats.specs.Next.{next_up_of}
use Rattle.floats.proofs.Parts.{or_split}
use Rattle.floats.proofs.Least.{rank, eq_rank, next_rank, next_fits}
use Rattle.floats.proofs.NextUp.{next_up_meets, next_up_only}
use Rattle.floats.proofs.Ints.{minus, whole_value}
use Rattle.rays.specs.declared.RaycastResult.{RaycastResult}
use Rattle.rays.specs.Raycast.{at, at_end, lift, Rests, rest, move, first_steps, last_steps, Raycast, raycast_of}
use Rattle.rays.proofs.Halves.{not_next, in_reach}

-- ---- where the loop rests
pub rests_unique : {a b : Float} {m n : ℕ} {y z w : Float} → Rests a b m y z → Rests a b n y w → z ≡ w
rests_unique (rest e) (rest f) = refl
rests_unique (rest e) (move f v q) = absurd (true≢false (sym f ∙ e))
rests_unique (move e u r) (rest f) = absurd (true≢false (sym e ∙ f))
rests_unique {a} {b} {y = y} {z = z} (move {n = m} {y' = s} e u r) (move {y' = t} f v q) =
    rests_unique (subst (λ (h : Float). Rests a b m h z) (next_up_only binary64 y s t u v) r) q

pub raycast_unique : {s : Segment} {p : Point} {r q : RaycastResult} → Raycast s p r → Raycast s p q → r ≡ q
raycast_unique {s} {p} h k =
    h.says
    ∙ ap (λ (y : Float). first_steps (point_of s.a) (point_of s.b) p (last_steps (point_of s.a) (point_of s.b) (at p.x y))) (rests_unique h.rests k.rests)
    ∙ sym k.says

-- ---- one move
-- what equals a finite value is below +infinity
below_top : (x y : Float) (s : Bool) (a c : ℕ) → HasValue y s a c → T (eq x y) → T (lt x (inf false))
unfolding eq lt
below_top nan y s a c v h = absurd h
below_top (inf r) nan s a c v h = absurd h
below_top (inf r) (inf t) s a c v h = absurd v
below_top (inf r) (fin t n d) s a c v h = absurd h
below_top (fin r m e) y s a c v h = tt

-- a height that equals the end z
at_end_lem : (z : ℤ) → nat_abs z < 2 ^ 52 → (y : Float) → T (fits binary64 y) → T (eq y (of_int binary64 z)) → (rank y ≡ rank (of_int binary64 z)) × T (lt y (inf false))
at_end_lem z h y f e = (eq_rank y (of_int binary64 z) f (of_int-fits binary64 z) e, below_top y (of_int binary64 z) (minus z) (nat_abs z) 1 (whole_value z (in_reach z h)) e)

-- is moved to a height that equals no end w
moved : (z w : ℤ) → nat_abs z < 2 ^ 52 → nat_abs w < 2 ^ 52 → (y : Float) → T (fits binary64 y) → T (eq y (of_int binary64 z)) → T (eq (next_up_of y) (of_int binary64 w)) → ⊥
moved z w Z W y f e g =
    let h = at_end_lem z Z y f e in
    not_next z w Z W (sym (at_end_lem w W (next_up_of y) (next_fits y) g).0 ∙ next_rank y f h.1 ∙ ap suc h.0)

module _ (a b : ℤ) (A : nat_abs a < 2 ^ 52) (B : nat_abs b < 2 ^ 52) (y : Float) (f : T (fits binary64 y)) where
  once : at_end (of_int binary64 a) (of_int binary64 b) y ≡ true → at_end (of_int binary64 a) (of_int binary64 b) (next_up_of y) ≡ true → ⊥
  once h k = elim (or_split (eq y (of_int binary64 a)) (eq y (of_int binary64 b)) (subst T (sym h) tt)) [ inl e ↦ from a A e | inr e ↦ from b B e ]
    where
      from : (z : ℤ) → nat_abs z < 2 ^ 52 → T (eq y (of_int binary64 z)) → ⊥
      from z Z e = elim (or_split (eq (next_up_of y) (of_int binary64 a)) (eq (next_up_of y) (of_int binary64 b)) (subst T (sym k) tt)) [ inl g ↦ moved z a Z A y f e g | inr g ↦ moved z b Z B y f e g ]

  -- the loop ends: the number of moves is at most one
  pub rests : (n : ℕ) × (n ≤ 1) × Rests (of_int binary64 a) (of_int binary64 b) n y (lift (of_int binary64 a) (of_int binary64 b) y)
  rests = go (at_end (of_int binary64 a) (of_int binary64 b) y) (at_end (of_int binary64 a) (of_int binary64 b) (next_up_of y)) refl refl
    where
      go : (u v : Bool) → at_end (of_int binary64 a) (of_int binary64 b) y ≡ u → at_end (of_int binary64 a) (of_int binary64 b) (next_up_of y) ≡ v
          → (n : ℕ) × (n ≤ 1) × Rests (of_int binary64 a) (of_int binary64 b) n y (if u then next_up_of y else y)
      go false v p q = (0, omega arith, rest p)
      go true false p q = (1, omega arith, move p (next_up_meets y f) (rest q))
      go true true p q = absurd (once p q)

-- and whenever it comes to rest, it has moved at most once
pub at_most_once : (a b : ℤ) → nat_abs a < 2 ^ 52 → nat_abs b < 2 ^ 52 → {n : ℕ} {y z : Float} → T (fits binary64 y) → Rests (of_int binary64 a) (of_int binary64 b) n y z → n ≤ 1
at_most_once a b A B f (rest e) = omega arith
at_most_once a b A B f (move e u (rest g)) = omega arith
at_most_once a b A B {y = y} f (move {y' = w} e u (move g v r)) =
    absurd (once a b A B y f e (ap (λ (h : Float). at_end (of_int binary64 a) (of_int binary64 b) h) (next_up_only binary64 y (next_up_of y) w (next_up_meets y f) u) ∙ g))

-- the computed answer is the one that the eight steps give
pub answers : (s : Segment) (p : Point) (r : RaycastResult) → nat_abs s.a.y < 2 ^ 52 → nat_abs s.b.y < 2 ^ 52 → T (fits binary64 p.y) → r ≡ raycast_of s p → Raycast s p r
unfolding raycast_of
answers s p r A B f e =
    let found = rests s.a.y s.b.y A B p.y f in
    record { moves = found.0; height = lift (point_of s.a).y (point_of s.b).y p.y; rests = found.2; says = e }
