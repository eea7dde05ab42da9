-- What `?` hands on is the refusal that it met. Assumes nothing.
use mathlib.Core.Path.{◌≡◌, sym, ap, ◌∙◌}
use Rattle.std.specs.Prelude.{Result, Ok, Err}
use Rattle.std.specs.Result.{IsErrAnd}

pub refused : {T E : Type 0} {why : E} (r : Result T E) → IsErrAnd r (λ e. e ≡ why) → r ≡ Err why
refused (Ok x) h = absurd h
refused (Err e) h = ap Err h
