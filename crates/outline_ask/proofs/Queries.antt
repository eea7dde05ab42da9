-- What a query's place says. Assumes nothing.
use mathlib.Core.Path.{◌≡◌, refl, ap₂, ◌∙◌}
use mathlib.Core.Bool.{Bool, true, false, cond, ◌&&◌}
use lib.IntN.{ℤ}
use lib.Ieee.{Float}
use lib.Ieee.Scale.{finite}
use Rattle.boxes.specs.declared.Point.{Point}
use Rattle.outline_check.specs.declared.Outline.{Outline}
use Rattle.outline_check.specs.declared.RaycastMode.{RaycastMode}
use Rattle.outline_check.specs.declared.RaycastMode.TheVariants.{Float as FloatMode, Integer as IntegerMode}
use Rattle.outline_ask.specs.declared.Query.TheVariants.{Outside, Float as FloatPlace, Grid as WholePlace}
use Rattle.outline_ask.specs.Query.{finite_point, scaled_point, placed, scaled_query}

-- a float place is finite
pub float_finite : (outline : Outline) (p : Point) (px py : Float) → FloatPlace px py ≡ scaled_query outline p → (finite px && finite py) ≡ true
unfolding scaled_query
float_finite outline p px py e = go (finite_point p) (finite_point (scaled_point outline.scale p)) refl outline.mode e
  where
    out : FloatPlace px py ≡ Outside → ⊥
    out e = cc

    no-grid : (a b : ℤ) → FloatPlace px py ≡ WholePlace a b → ⊥
    no-grid a b e = cc

    same : (a b : Float) → FloatPlace px py ≡ FloatPlace a b → (px ≡ a) × (py ≡ b)
    same a b e = (cc, cc)

    go : (b d : Bool) → finite_point (scaled_point outline.scale p) ≡ d → (m : RaycastMode)
        → FloatPlace px py ≡ cond (b && d) (placed m (scaled_point outline.scale p)) Outside → (finite px && finite py) ≡ true
    go false d f m e = absurd (out e)
    go true false f m e = absurd (out e)
    go true true f FloatMode e =
        let s = same _ _ e in
        ap₂ (λ (a b : Float). finite a && finite b) s.0 s.1 ∙ f
    go true true f IntegerMode e = absurd (no-grid _ _ e)
