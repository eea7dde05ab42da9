-- 01: "An answer is yes, no, or a refusal that carries its number and place."
use Rattle.std.specs.Prelude.{Bool, Result, Ok}
use Rattle.answers.specs.declared.Refusal.{Refusal}

abbrev pub Answer : Type 0
Answer = Result Bool Refusal

-- what an inside question that is not refused answers
abbrev pub said : Bool → Answer
said b = Ok b
