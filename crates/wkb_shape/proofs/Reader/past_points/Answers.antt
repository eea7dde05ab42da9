use native.Mathlib.Omega.{arith}
use Rattle.wkb_shape.specs.Inner.Laid.{end_of}
use Rattle.wkb_shape.proofs.Laid.{points_fit, points_cut}
use Rattle.wkb_shape.proofs.Reader.past_points.Goals as goal

pub returns-then-there-n : goal.returns-then-there-n
unfolding end_of
returns-then-there-n c = let a = c.args in rw (points_cut a.self.bytes.now a.self.order a.n a.self.at (omega arith) c.if-there-n.true)

pub returns : goal.returns
unfolding end_of
returns c = let a = c.args in rw (points_fit a.self.bytes.now a.self.order a.n a.self.at (omega arith))
