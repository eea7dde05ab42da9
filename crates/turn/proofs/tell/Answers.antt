use mathlib.Core.Path.{sym, ap, ◌∙◌}
use Rattle.turn.proofs.Compare.{told, turn_of_halves}
use Rattle.turn.proofs.tell.Goals as goal

pub returns-in-Greater : goal.returns-in-Greater
returns-in-Greater c = sym (turn_of_halves _ _ c.requires.0 c.requires.1 ∙ ap told (sym c.cmp.ensures ∙ c.in-Greater.is))

pub returns-in-Less : goal.returns-in-Less
returns-in-Less c = sym (turn_of_halves _ _ c.requires.0 c.requires.1 ∙ ap told (sym c.cmp.ensures ∙ c.in-Less.is))

pub returns-in-Equal : goal.returns-in-Equal
returns-in-Equal c = sym (turn_of_halves _ _ c.requires.0 c.requires.1 ∙ ap told (sym c.cmp.ensures ∙ c.in-Equal.is))
