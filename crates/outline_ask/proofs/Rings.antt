-- The reading of an outline's rings, one at a time. Assumes nothing.
use Rattle.std.specs.Prelude.{Ok, Err}
use mathlib.Core.Path.{◌≡◌, sym, ap, ◌∙◌}
use mathlib.Core.Bool.{Bool, true, false}
use Prim.Native.Nat.{ℕ, suc, ◌+◌, ◌-◌, ◌≤◌, ◌<◌}
use native.Mathlib.Omega.{arith}
use Rattle.answers.specs.declared.Refusal.{Refusal}
use Rattle.answers.specs.Answers.{Answer}
use Rattle.outline_ask.specs.Inside.{after_exterior, after_hole, holes_from, through_rings}

module _ (hole : ℕ → Answer) (n : ℕ) where
  -- the holes before ring k have settled nothing
  abbrev pub Unsettled : ℕ → Type 0
  Unsettled k = holes_from hole (n - k) k ≡ holes_from hole (n - 1) 1

  more : (k : ℕ) → k < n → holes_from hole (n - k) k ≡ after_hole (hole k) (holes_from hole (n - (k + 1)) (k + 1))
  unfolding holes_from
  more k h = let e : n - k ≡ suc (n - (k + 1)) = omega arith in rw e

  pub holes_done : (k : ℕ) → n ≤ k → Unsettled k → Ok true ≡ holes_from hole (n - 1) 1
  unfolding holes_from
  holes_done k h u = let e : n - k ≡ 0 = omega arith in rw e at u

  module _ (k : ℕ) (h : k < n) (u : Unsettled k) where
    rest : (a : Answer) → hole k ≡ a → holes_from hole (n - 1) 1 ≡ after_hole a (holes_from hole (n - (k + 1)) (k + 1))
    rest a e = sym u ∙ more k h ∙ ap (λ (a : Answer). after_hole a (holes_from hole (n - (k + 1)) (k + 1))) e

    pub hole_holds : hole k ≡ Ok true → Ok false ≡ holes_from hole (n - 1) 1
    hole_holds e = sym (rest (Ok true) e)

    pub hole_refused : (why : Refusal) → hole k ≡ Err why → Err why ≡ holes_from hole (n - 1) 1
    hole_refused why e = sym (rest (Err why) e)

    pub hole_passed : hole k ≡ Ok false → Unsettled (k + 1)
    hole_passed e = sym (rest (Ok false) e)

module _ (in_box : Bool) (test : ℕ → Bool → Answer) (n : ℕ) (edge : Bool) where
  pub out_of_box : in_box ≡ false → Ok false ≡ through_rings in_box test n edge
  unfolding through_rings
  out_of_box b = rw b

  module _ (b : in_box ≡ true) where
    first : (a : Answer) → test 0 edge ≡ a → through_rings in_box test n edge ≡ after_exterior a (holes_from (λ k. test k false) (n - 1) 1)
    unfolding through_rings
    first a e = rw (b, e)

    pub exterior_passes : test 0 edge ≡ Ok false → Ok false ≡ through_rings in_box test n edge
    exterior_passes e = sym (first (Ok false) e)

    pub exterior_refused : (why : Refusal) → test 0 edge ≡ Err why → Err why ≡ through_rings in_box test n edge
    exterior_refused why e = sym (first (Err why) e)

    pub exterior_holds : (r : Answer) → test 0 edge ≡ Ok true → r ≡ holes_from (λ k. test k false) (n - 1) 1 → r ≡ through_rings in_box test n edge
    exterior_holds r e q = q ∙ sym (first (Ok true) e)
