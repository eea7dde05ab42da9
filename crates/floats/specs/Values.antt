-- The absolute value, and the lesser and the greater of two values: total, at a NaN and at zeros too.
use Rattle.std.specs.Prelude.{false, ◌||◌, cond, Float}
use Rattle.std.specs.Float.{nan, inf, fin}
use Rattle.std.specs.Float.Ieee.{lt, ne}

-- IEEE 754-2019, 5.5.1, abs, which is Rust's `f64::abs`: the sign is cleared. A NaN stays one.
unfoldable pub abs_of : Float → Float
abs_of nan = nan
abs_of (inf s) = inf false
abs_of (fin s m e) = fin false m e

-- Rust's `f64::min`: the lesser one, and beside a NaN the other. Rust leaves open which of two zeros it gives; here it is
-- the first.
unfoldable pub lesser_of : Float → Float → Float
lesser_of x y = cond (lt y x || ne x x) y x

-- Rust's `f64::max`, likewise
unfoldable pub greater_of : Float → Float → Float
greater_of x y = cond (lt x y || ne x x) y x
