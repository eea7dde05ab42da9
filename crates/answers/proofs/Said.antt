-- A yes is said as yes, and a no as no. Assumes nothing.
use Rattle.std.specs.Prelude.{Ok}
use mathlib.Core.Path.{◌≡◌, refl}
use mathlib.Core.Bool.{true, false}
use Rattle.answers.specs.Answers.{said}

pub said_yes : said true ≡ Ok true
said_yes = refl

pub said_no : said false ≡ Ok false
said_no = refl
