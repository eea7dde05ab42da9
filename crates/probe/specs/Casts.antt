-- The numbers that stand for what a test of one segment says.
use Rattle.std.specs.Prelude.{ℕ}
use Rattle.rays.specs.declared.RaycastResult.{RaycastResult}
use Rattle.rays.specs.declared.RaycastResult.TheVariants.{On, Inside, Neither}
use Rattle.cross.specs.declared.Sign.{Sign}
use Rattle.cross.specs.declared.Sign.TheVariants.{Below, Zero, Above}
use Rattle.grid.specs.declared.GridResult.{GridResult}
use Rattle.grid.specs.declared.GridResult.TheVariants.{OnSegment, Flips, Passes}

abbrev pub cast_number : RaycastResult → ℕ
cast_number Neither = 0
cast_number Inside = 1
cast_number On = 2

abbrev pub grid_number : GridResult → ℕ
grid_number Passes = 0
grid_number Flips = 1
grid_number OnSegment = 2

abbrev pub sign_number : Sign → ℕ
sign_number Below = 0
sign_number Zero = 1
sign_number Above = 2
