-- An outline from its numbers, and how the calls on outlines are told.
use Rattle.std.specs.Prelude.{Ok, Err, ℕ, Bool, true, false}
use Rattle.outline_check.specs.declared.RaycastMode.{RaycastMode}
use Rattle.outline_check.specs.declared.RaycastMode.TheVariants.{Float, Integer}
use Rattle.outline_record.specs.Made.{Made}
use Rattle.capi.specs.Told.{Told, is_set, refusal_told}

-- 0 is Float mode, any other number Integer mode
abbrev pub mode_by : Bool → RaycastMode
mode_by true = Integer
mode_by false = Float

abbrev pub mode_of : ℕ → RaycastMode
mode_of n = mode_by (is_set n)

-- 0 and how many rings there are
abbrev pub made_told : Made → Told
made_told (Ok n) = (0, n)
made_told (Err why) = refusal_told why
