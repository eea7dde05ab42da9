-- An accepted ring whose points are all on one line has no turn (`line_turned`); so has one of a single point repeated
-- (`point_turned`). Assumes nothing.
use Rattle.std.specs.Prelude.{Ok}
use Prim.Native.Nat.{ℕ, zero, suc, ◌*◌, ◌<◌}
use mathlib.Core.Path.{◌≡◌, refl, sym, ap, ap₂, ◌∙◌}
use mathlib.Core.Bool.{true}
use mathlib.Core.List.{List}
use native.Mathlib.Omega.{arith}
use lib.IntN.{ℤ, pos, negsuc, neg_ℤ, ◌+ℤ◌, ◌-ℤ◌, ◌*ℤ◌, +ℤ_idr, +ℤ_comm, *ℤ_comm, *ℤ-one, zero-*ℤ, one, neg_ℤ-neg_ℤ, nat_abs, ℤ_discrete}
use Rattle.boxes.specs.declared.I32Point.{I32Point}
use Rattle.rings.specs.Ring.{point_at, segments}
use Rattle.rings.specs.Checks.{closed, ring_checked}
use Rattle.rings.proofs.Whole.{split, diff_add, diff_sub, diff_mul, diff_same}
use Rattle.rings.proofs.Checks.{sound_ring}
use Rattle.turn.specs.declared.Turning.TheVariants.{None}
use Rattle.turn.specs.Turn.{doubled_area, turned}
use Rattle.turn.specs.Line.{Line, OnLine}
use Rattle.turn.proofs.Sums.{sum_below, sum_steps, sum_times, cancel}
use Rattle.turn.proofs.Rows.{ends, step, area_of_points}
use Rattle.turn.proofs.Sign.{flat_none}

-- ---- whole numbers

reorder : (a b c : ℤ) → a *ℤ (b *ℤ c) ≡ b *ℤ (a *ℤ c)
reorder a b c = rw (split a, split b, split c) (simp diff_mul (diff_same _ _ _ _ (omega arith)))

times_sub : (k a b : ℤ) → k *ℤ (a -ℤ b) ≡ k *ℤ a -ℤ k *ℤ b
times_sub k a b = rw (split k, split a, split b) (simp (diff_sub, diff_mul) (diff_same _ _ _ _ (omega arith)))

apart : (p q u v x x' : ℤ) → (p +ℤ u) *ℤ x -ℤ (q +ℤ v) *ℤ x' ≡ (x *ℤ u -ℤ x' *ℤ v) +ℤ (x *ℤ p -ℤ x' *ℤ q)
apart p q u v x x' =
    rw (split p, split q, split u, split v, split x, split x')
    (simp (diff_add, diff_sub, diff_mul) (diff_same _ _ _ _ (omega arith)))

turned_round : (p q : ℤ) → p -ℤ q ≡ neg_ℤ q -ℤ neg_ℤ p
turned_round p q = +ℤ_comm p (neg_ℤ q) ∙ ap (λ (z : ℤ). neg_ℤ q +ℤ z) (sym (neg_ℤ-neg_ℤ p))

size : (k : ℕ) → nat_abs (neg_ℤ (pos k)) ≡ k
size zero = refl
size (suc k) = refl

-- a product is 0 only where a factor is
no_divisors : (k z : ℤ) → k *ℤ z ≡ pos 0 → (k ≡ pos 0 → ⊥) → z ≡ pos 0
no_divisors k (pos zero) e some = refl
no_divisors (pos zero) (pos (suc n)) e some = absurd (some refl)
no_divisors (pos zero) (negsuc n) e some = absurd (some refl)
no_divisors (pos (suc m)) (pos (suc n)) e some = let h : suc m * suc n ≡ 0 = cc in absurd (omega arith)
no_divisors (pos (suc m)) (negsuc n) e some = let h : suc m * suc n ≡ 0 = sym (size (suc m * suc n)) ∙ ap nat_abs e in absurd (omega arith)
no_divisors (negsuc m) (pos (suc n)) e some = let h : suc m * suc n ≡ 0 = sym (size (suc m * suc n)) ∙ ap nat_abs e in absurd (omega arith)
no_divisors (negsuc m) (negsuc n) e some = let h : suc m * suc n ≡ 0 = cc in absurd (omega arith)

-- ---- one segment

-- of two points on a x + b y = c, b times the part of the segment between them is the step from c x to c x'
times_b : (a b c x y x' y' : ℤ) → a *ℤ x +ℤ b *ℤ y ≡ c → a *ℤ x' +ℤ b *ℤ y' ≡ c → b *ℤ (x *ℤ y' -ℤ x' *ℤ y) ≡ c *ℤ x -ℤ c *ℤ x'
times_b a b c x y x' y' here there =
    let same : x *ℤ (a *ℤ x') ≡ x' *ℤ (a *ℤ x) = reorder x a x' ∙ ap (λ (z : ℤ). a *ℤ z) (*ℤ_comm x x') ∙ reorder a x' x in
    let left : b *ℤ (x *ℤ y' -ℤ x' *ℤ y) ≡ x *ℤ (b *ℤ y') -ℤ x' *ℤ (b *ℤ y) = times_sub b (x *ℤ y') (x' *ℤ y) ∙ ap₂ ◌-ℤ◌ (reorder b x y') (reorder b x' y) in
    let none : x *ℤ (a *ℤ x') -ℤ x' *ℤ (a *ℤ x) ≡ pos 0 = ap (λ (z : ℤ). z -ℤ x' *ℤ (a *ℤ x)) same ∙ cancel (x' *ℤ (a *ℤ x)) in
    let right : c *ℤ x -ℤ c *ℤ x' ≡ (a *ℤ x' +ℤ b *ℤ y') *ℤ x -ℤ (a *ℤ x +ℤ b *ℤ y) *ℤ x' = ap₂ (λ (s t : ℤ). s *ℤ x -ℤ t *ℤ x') (sym there) (sym here) in
    left
    ∙ sym (right
    ∙ apart (a *ℤ x') (a *ℤ x) (b *ℤ y') (b *ℤ y) x x'
    ∙ ap (λ (z : ℤ). (x *ℤ (b *ℤ y') -ℤ x' *ℤ (b *ℤ y)) +ℤ z) none
    ∙ +ℤ_idr (x *ℤ (b *ℤ y') -ℤ x' *ℤ (b *ℤ y)))

-- and a times it the step from c y' to c y: the same with x and y exchanged
times_a : (a b c x y x' y' : ℤ) → a *ℤ x +ℤ b *ℤ y ≡ c → a *ℤ x' +ℤ b *ℤ y' ≡ c → a *ℤ (x *ℤ y' -ℤ x' *ℤ y) ≡ c *ℤ y' -ℤ c *ℤ y
times_a a b c x y x' y' here there =
    ap (λ (z : ℤ). a *ℤ z) (ap₂ ◌-ℤ◌ (*ℤ_comm x y') (*ℤ_comm x' y))
    ∙ times_b b a c y' x' y x (+ℤ_comm (b *ℤ y') (a *ℤ x') ∙ there) (+ℤ_comm (b *ℤ y) (a *ℤ x) ∙ here)

-- ---- the ring

module _ (l : Line) (ring : List ℤ) (points : ℕ) (on : OnLine l ring points) (shut : closed ring points ≡ true) where
  -- the steps go round, so that they come to nothing
  no_b : l.b *ℤ doubled_area ring points ≡ pos 0
  no_b =
      let goes : ℕ → ℤ = λ i. l.c *ℤ (point_at ring i).x in
      ap (λ (z : ℤ). l.b *ℤ z) (area_of_points ring points)
      ∙ sum_times l.b (λ i. step (point_at ring i) (point_at ring (suc i))) (segments points)
      ∙ sum_below _ (λ i. goes i -ℤ goes (suc i)) (segments points)
      (λ i h. times_b l.a l.b l.c _ _ _ _ (on i (omega arith)) (on (suc i) (omega arith)))
      ∙ sum_steps goes (segments points)
      ∙ ap (λ (p : I32Point). l.c *ℤ p.x -ℤ goes (segments points)) (ends ring points shut)
      ∙ cancel (goes (segments points))

  no_a : l.a *ℤ doubled_area ring points ≡ pos 0
  no_a =
      let goes : ℕ → ℤ = λ i. neg_ℤ (l.c *ℤ (point_at ring i).y) in
      ap (λ (z : ℤ). l.a *ℤ z) (area_of_points ring points)
      ∙ sum_times l.a (λ i. step (point_at ring i) (point_at ring (suc i))) (segments points)
      ∙ sum_below _ (λ i. goes i -ℤ goes (suc i)) (segments points)
      (λ i h.
      times_a l.a l.b l.c _ _ _ _ (on i (omega arith)) (on (suc i) (omega arith))
      ∙ turned_round (l.c *ℤ (point_at ring (suc i)).y) (l.c *ℤ (point_at ring i).y))
      ∙ sum_steps goes (segments points)
      ∙ ap (λ (p : I32Point). neg_ℤ (l.c *ℤ p.y) -ℤ goes (segments points)) (ends ring points shut)
      ∙ cancel (goes (segments points))

  pub line_area : doubled_area ring points ≡ pos 0
  line_area =
      elim (ℤ_discrete l.b (pos 0)) [
        | yes flat ↦ no_divisors l.a (doubled_area ring points) no_a (λ level. l.runs level flat)
        | no some ↦ no_divisors l.b (doubled_area ring points) no_b some
      ]

pub line_turned : (l : Line) (ring : List ℤ) (points : ℕ) → OnLine l ring points → ring_checked ring points ≡ Ok tt → turned ring points ≡ Ok None
unfolding turned
line_turned l ring points on sound =
    rw (sound, line_area l ring points on (sound_ring ring points sound).shut) (ap Ok flat_none)

-- ---- one point, repeated

upright : ℤ → Line
upright x = record { a = pos 1; b = pos 0; c = x; runs = λ e f. let z : ◌≡◌ {A = ℕ} 1 0 = cc in omega arith }

pub point_turned : (p : I32Point) (ring : List ℤ) (points : ℕ) → ((i : ℕ) → i < points → point_at ring i ≡ p)
    → ring_checked ring points ≡ Ok tt → turned ring points ≡ Ok None
unfolding upright one
point_turned p ring points same sound = line_turned (upright p.x) ring points on sound
  where
    on : OnLine (upright p.x) ring points
    on i h =
        ap (λ (q : I32Point). pos 1 *ℤ q.x +ℤ pos 0 *ℤ q.y) (same i h)
        ∙ ap₂ ◌+ℤ◌ (*ℤ_comm (pos 1) p.x ∙ *ℤ-one p.x) (zero-*ℤ p.y)
        ∙ +ℤ_idr p.x
