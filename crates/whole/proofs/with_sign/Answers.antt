-- `whole::with_sign` meets its contract. Assumes nothing.
use Rattle.std.proofs.Common.{◌∙◌, w64}
use mir.Facts.{to_z_pos}
use Rattle.whole.proofs.Width.{minus_fits, minus_is, minus_inside, minus_end, plus_inside, plus_end}
use Rattle.whole.proofs.with_sign.Goals as goal

pub overflow_sub-result : goal.overflow_sub-result
overflow_sub-result c = minus_fits _ c.if-n-lt9223372036854775808.true

pub returns-then-n-lt9223372036854775808 : goal.returns-then-n-lt9223372036854775808
returns-then-n-lt9223372036854775808 c = minus_is _ c.if-n-lt9223372036854775808.true ∙ minus_inside _ _ c.if-minus.true c.if-n-lt9223372036854775808.true

pub returns-then-minus : goal.returns-then-minus
returns-then-minus c = minus_end _ _ c.if-minus.true c.if-n-lt9223372036854775808.false

pub returns-then-n-lt9223372036854775808-2 : goal.returns-then-n-lt9223372036854775808-2
returns-then-n-lt9223372036854775808-2 c = to_z_pos w64 c.if-n-lt9223372036854775808-2.true ∙ plus_inside _ _ c.if-minus.false c.if-n-lt9223372036854775808-2.true

pub returns : goal.returns
returns c = plus_end _ _ c.if-minus.false c.if-n-lt9223372036854775808-2.false
