-- An outcome leaves nothing out: two that are equal have the same result and the same last value of every parameter. Assumes nothing.
use Prim.Native.Nat.{ℕ}
use mathlib.Core.Path.{◌≡◌, ap}
use mathlib.Core.List.{List, [], ◌∷◌}
use contract.Lifetimes.{Lfts}
use denote.Exit.{Exit, unchanged, leaves, Last}
use denote.RattleType.{Denots}
use denote.Signature.{Slot, types_at}
use denote.Triple.End.{Kepts, Fins}
use denote.Triple.Entry.{Args, Res}
use denote.Triple.Clauses.{Ended, Lasts, at_exit}
use Rattle.outcome.specs.OneOutcome.{beside, Outcome, outcome, Promise, OneOutcome}

module _ {D : Type 0} (x : D) (Z : Type 0) {W : Type 0} (Rest : Type 0 → Type 0) (rest : W → (Y : Type 0) → Y → Rest Y) where
  one_more : (e : Exit D) (z z' : Z) (v v' : Last e x) (w w' : W)
      → ((Y : Type 0) (y y' : Y) → rest w Y y ≡ rest w' Y y' → ◌≡◌ {A = Y × W} (y, w) (y', w'))
      → beside e x Z Rest z v (rest w) ≡ beside e x Z Rest z' v' (rest w')
      → ◌≡◌ {A = Z × (Last e x × W)} (z, (v, w)) (z', (v', w'))
  one_more unchanged z z' v v' w w' h p = ap (λ o. (o.0, (v, o.1))) (h Z z z' p)
  one_more (leaves L l S s r₀) z z' v v' w w' h p = λ i. ((p i).0, h (L x) v v' (ap (λ o. o.1) p) i)

module _ {n : ℕ} (κs : Lfts n) where
  sees : (ss : List (Slot n)) (ks : Kepts ss) (a : Denots (types_at ss κs)) (Z : Type 0) (z z' : Z) (w w' : Fins κs ss ks a)
      → outcome κs ss ks a Z z w ≡ outcome κs ss ks a Z z' w'
      → ◌≡◌ {A = Z × Fins κs ss ks a} (z, w) (z', w')
  sees [] ks a Z z z' w w' p = λ i. (p i, w)
  sees (s ∷ ss) ks a Z z z' w w' p =
      one_more a.0 Z (λ Y. Outcome κs ss ks.1 a.1 Y) (λ u Y y. outcome κs ss ks.1 a.1 Y y u) ((s.row κs).exit ks.0) z z' w.0 w'.0 w.1 w'.1
      (λ Y y y' q. sees ss ks.1 a.1 Y y y' w.1 w'.1 q) p

-- So a promise that leaves one outcome leaves one result and one last value of everything that is lent.
pub whole : (T : Ended) (Met : Promise T) → OneOutcome T Met
    → (κs : Lfts T.signature.lifetimes) (a : Args T.signature κs) (z z' : Res T.signature κs) (w w' : Lasts T κs a)
    → Met κs a z (at_exit T κs a w)
    → Met κs a z' (at_exit T κs a w')
    → ◌≡◌ {A = Res T.signature κs × Lasts T κs a} (z, w) (z', w')
whole T Met one κs a z z' w w' p q = sees κs T.signature.params T.kept a (Res T.signature κs) z z' w w' (one κs a z z' w w' p q)
