-- 01, "Asking": "A query, once scaled, is outside, a float place, or a whole place."
use Rattle.std.specs.Prelude.{Bool, cond, ◌&&◌, Float}
use Rattle.std.specs.Float.{binary64}
use Rattle.std.specs.Float.Ieee.{mul}
use Rattle.std.specs.Float.Ieee.Scale.{finite}
use Rattle.boxes.specs.declared.Point.{Point}
use Rattle.whole.specs.Round.{round_to}
use Rattle.outline_check.specs.declared.Outline.{Outline}
use Rattle.outline_check.specs.declared.RaycastMode.{RaycastMode}
use Rattle.outline_check.specs.declared.RaycastMode.TheVariants.{Float as FloatMode, Integer as IntegerMode}
use Rattle.outline_ask.specs.declared.Query.{Query}
use Rattle.outline_ask.specs.declared.Query.TheVariants.{Outside, Float as FloatPlace, Grid as WholePlace}

abbrev pub finite_point : Point → Bool
finite_point p = finite p.x && finite p.y

-- "Scaling is one rounded multiplication by the scale."
abbrev pub scaled_point : Float → Point → Point
scaled_point scale p = record { x = mul binary64 p.x scale; y = mul binary64 p.y scale }

-- "Integer mode: round each scaled coordinate to the nearest whole number, halves away from zero, held to the i64 ends"
abbrev pub placed : RaycastMode → Point → Query
placed FloatMode s = FloatPlace s.x s.y
placed IntegerMode s = WholePlace (round_to 63 s.x) (round_to 63 s.y)

-- "a query that is NaN or infinite, before or after scaling, is outside"
unfoldable pub scaled_query : Outline → Point → Query
scaled_query outline p =
    let s = scaled_point outline.scale p in
    cond (finite_point p && finite_point s) (placed outline.mode s) Outside
