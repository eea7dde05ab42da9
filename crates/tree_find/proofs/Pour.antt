-- How what is found is taken, one reading after another. Assumes nothing.
use Prim.Native.Nat.{ℕ}
use mathlib.Core.Path.{◌≡◌, refl, sym, ◌∙◌}
use mathlib.Core.List.{List, [], ◌∷◌, ◌++◌}
use Rattle.std.specs.Prelude.{Ok, Err}
use Rattle.answers.specs.declared.Refusal.{Refusal}
use Rattle.tree.specs.Search.{Found, ends, fails, after}
use Rattle.tree_find.specs.Inner.Walks.{Step, Taking, Out, onward, poured, pour, then}

module _ {V : Type 0} where
  pub then_go : {x : Out V} {p : ℕ} {v : V} (f : ℕ → V → Out V) → x ≡ (Ok p, v) → then x f ≡ f p v
  unfolding then
  then_go f e = rw e

  pub then_stop : {x : Out V} {why : Refusal} {v : V} (f : ℕ → V → Out V) → x ≡ (Err why, v) → then x f ≡ (Err why, v)
  unfolding then
  then_stop f e = rw e

  onward_then : (x : Taking V) (f : V → Out V) (g : ℕ → V → Out V) → then (onward x f) g ≡ onward x (λ v. then (f v) g)
  unfolding then onward
  onward_then (Ok _, v) f g = refl
  onward_then (Err why, v) f g = refl

  onward_ext : (x : Taking V) (f g : V → Out V) → ((v : V) → f v ≡ g v) → onward x f ≡ onward x g
  unfolding onward
  onward_ext (Ok _, v) f g h = h v
  onward_ext (Err why, v) f g h = refl

  module _ (step : Step V) where
    pour_on : (xs : List ℕ) (p : ℕ) (f : ℕ → Found) (v : V)
        → poured step (xs ++ (f p).0) (f p).1 v ≡ then (poured step xs (ends p) v) (λ q v'. pour step (f q) v')
    unfolding poured then
    pour_on [] p f v = refl
    pour_on (x ∷ xs) p f v =
        onward_ext (step x v) (λ v'. poured step (xs ++ (f p).0) (f p).1 v') (λ v'. then (poured step xs (ends p) v') (λ q v''. pour step (f q) v'')) (pour_on xs p f)
        ∙ sym (onward_then (step x v) (λ v'. poured step xs (ends p) v') (λ q v''. pour step (f q) v''))

    pour_fails : (xs : List ℕ) (why : Refusal) (v : V) (f : ℕ → V → Out V) → then (poured step xs (fails why) v) f ≡ poured step xs (fails why) v
    unfolding poured then
    pour_fails [] why v f = refl
    pour_fails (x ∷ xs) why v f =
        onward_then (step x v) (λ v'. poured step xs (fails why) v') f
        ∙ onward_ext (step x v) (λ v'. then (poured step xs (fails why) v') f) (λ v'. poured step xs (fails why) v') (λ v'. pour_fails xs why v' f)

    -- one reading after another
    pub pour_after : (x : Found) (f : ℕ → Found) (v : V) → pour step (after x f) v ≡ then (pour step x v) (λ p v'. pour step (f p) v')
    unfolding after
    pour_after (xs, ends p) f v = pour_on xs p f v
    pour_after (xs, fails why) f v = sym (pour_fails xs why v _)
