-- What a call gives back is its result and the content of every slice or number that is lent to it for writing. The list of these is read off the function's own signature, so no
-- statement can leave one out. Assumes nothing: these are definitions.
use Rattle.std.specs.Prelude.{ℕ, ◌≡◌, List, [], ◌∷◌}
use contract.Lifetimes.{Lfts}
use denote.Exit.{Exit, unchanged, leaves, Last}
use denote.RattleType.{Denots}
use denote.Signature.{Slot, types_at}
use denote.Triple.End.{Kepts, Fins}
use denote.Triple.Entry.{Args, Res}
use denote.Triple.Clauses.{Ended, Lasts, AtExit, at_exit}

-- a value `Z` with what a parameter leaves behind it: nothing where the parameter is only read
abbrev pub Beside : {D : Type 0} (e : Exit D) → D → Type 0 → (Type 0 → Type 0) → Type 0
Beside unchanged x Z Rest = Rest Z
Beside (leaves L l S s r₀) x Z Rest = Z × Rest (L x)

abbrev pub beside : {D : Type 0} (e : Exit D) (x : D) (Z : Type 0) (Rest : Type 0 → Type 0) → Z → Last e x → ((Y : Type 0) → Y → Rest Y) → Beside e x Z Rest
beside unchanged x Z Rest z w rest = rest Z z
beside (leaves L l S s r₀) x Z Rest z w rest = (z, rest (L x) w)

module _ {n : ℕ} (κs : Lfts n) where
  -- the result, then what each parameter leaves, in the order of the parameters
  abbrev pub Outcome : (ss : List (Slot n)) (ks : Kepts ss) → Denots (types_at ss κs) → Type 0 → Type 0
  Outcome [] ks a Z = Z
  Outcome (s ∷ ss) ks a Z = Beside ((s.row κs).exit ks.0) a.0 Z (λ Y. Outcome ss ks.1 a.1 Y)

  abbrev pub outcome : (ss : List (Slot n)) (ks : Kepts ss) (a : Denots (types_at ss κs)) (Z : Type 0) → Z → Fins κs ss ks a → Outcome ss ks a Z
  outcome [] ks a Z z ws = z
  outcome (s ∷ ss) ks a Z z ws =
      beside ((s.row κs).exit ks.0) a.0 Z (λ Y. Outcome ss ks.1 a.1 Y) z ws.0 (λ Y y. outcome ss ks.1 a.1 Y y ws.1)

-- what a contract says of the lifetimes, the arguments, the result and the parameters at exit
abbrev pub Promise : Ended → Type 1
Promise T = (κs : Lfts T.signature.lifetimes) → Args T.signature κs → Res T.signature κs → AtExit T κs → Type 0

-- Any two outcomes of a call, whatever it is given, that meet the promise are equal. Nothing is asked of what is given, so this holds refused or not.
abbrev pub OneOutcome : (T : Ended) → Promise T → Type 0
OneOutcome T Met =
    (κs : Lfts T.signature.lifetimes) (a : Args T.signature κs) (z z' : Res T.signature κs) (w w' : Lasts T κs a)
    → Met κs a z (at_exit T κs a w)
    → Met κs a z' (at_exit T κs a w')
    → outcome κs T.signature.params T.kept a (Res T.signature κs) z w ≡ outcome κs T.signature.params T.kept a (Res T.signature κs) z' w'
