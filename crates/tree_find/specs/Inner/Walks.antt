-- What a search does with what it finds, segment by segment: for the functions inside. The public meaning is in Find.antt.
use Rattle.std.specs.Prelude.{ℕ, List, [], ◌∷◌, cond, eqb, Result, Ok, Err}
use Rattle.answers.specs.declared.Refusal.{Refusal}
use Rattle.answers.specs.declared.Refusal.TheVariants.{Damaged}
use Rattle.tree.specs.Search.{Found, End, ends, fails}

-- what came of a segment, with the visitor then
abbrev pub Taking : Type 0 → Type 0
Taking V = Result (Unit {0}) Refusal × V

-- what a visitor does with a segment
abbrev pub Step : Type 0 → Type 0
Step V = ℕ → V → Taking V

-- how far a search came, or why it stopped
abbrev pub Reached : Type 0
Reached = Result ℕ Refusal

-- the same, with the visitor then
abbrev pub Out : Type 0 → Type 0
Out V = Reached × V

abbrev pub shown : End → Reached
shown (ends p) = Ok p
shown (fails why) = Err why

abbrev pub finish_of : ℕ → ℕ → Reached
finish_of end p = cond (eqb p end) (Ok p) (Err (Damaged p))

module _ {V : Type 0} where
  unfoldable pub onward : Taking V → (V → Out V) → Out V
  onward (Ok _, v) f = f v
  onward (Err why, v) f = (Err why, v)

  -- each number found is visited in its turn, up to one at which the visitor stops
  unfoldable pub poured : Step V → List ℕ → End → V → Out V
  poured step [] e v = (shown e, v)
  poured step (x ∷ xs) e v = onward (step x v) (λ v'. poured step xs e v')

  abbrev pub pour : Step V → Found → V → Out V
  pour step found v = poured step found.0 found.1 v

  -- go on from where a search came to
  unfoldable pub then : Out V → (ℕ → V → Out V) → Out V
  then (Ok p, v) f = f p v
  then (Err why, v) f = (Err why, v)
