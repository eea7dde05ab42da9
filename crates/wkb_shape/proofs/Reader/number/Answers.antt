use native.Mathlib.Omega.{arith}
use Rattle.wkb_shape.specs.Inner.Laid.{value_of}
use Rattle.wkb_shape.proofs.Reading.{field_fits, field_cut}
use Rattle.wkb_shape.proofs.Reader.number.Goals as goal

pub returns-then-self-lt4 : goal.returns-then-self-lt4
unfolding value_of
returns-then-self-lt4 c = let a = c.args in rw (field_cut a.self.bytes.now a.self.order 4 a.self.at (omega arith))

pub returns : goal.returns
unfolding value_of
returns c = let a = c.args in rw (field_fits a.self.bytes.now a.self.order 4 a.self.at (omega arith), c.u32_at.ensures)
