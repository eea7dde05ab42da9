-- Outside the box by the laws of far places; in it `near` answers.
use mathlib.Core.Path.{◌≡◌, sym, ◌∙◌}
use mir.Syntax.{w64}
use mir.Val.{to_z, of_z}
use mir.Facts.{to_z-of_z}
use Rattle.grid.proofs.Far.{outside_passes, left_result, near_box}
use Rattle.grid.proofs.Within.{widened}
use Rattle.grid.proofs.grid_test.Goals as goal
use Rattle.grid.proofs.grid_test.Goals.{After-from-ry}

-- the four that were widened are the ends
four : (c : After-from-ry) → let s = c.args.seg in
    (to_z w64 (of_z w64 c.from-lx.result) ≡ s.a.x)
    × (to_z w64 (of_z w64 c.from-ly.result) ≡ s.a.y)
    × (to_z w64 (of_z w64 c.from-rx.result) ≡ s.b.x)
    × (to_z w64 (of_z w64 c.from-ry.result) ≡ s.b.y)
four c = let s = c.args.seg in let e = c.well_formed.0.1.1 in (
  widened c.from-lx.result s.a.x c.from-lx.ensures (record { sfits = e.0.1.1.0.1 }),
  widened c.from-ly.result s.a.y c.from-ly.ensures (record { sfits = e.0.1.1.1.0.1 }),
  widened c.from-rx.result s.b.x c.from-rx.ensures (record { sfits = e.1.0.1.1.0.1 }),
  widened c.from-ry.result s.b.y c.from-ry.ensures (record { sfits = e.1.0.1.1.1.0.1 }),
)

pub returns-then-py-ly : goal.returns-then-py-ly
returns-then-py-ly c =
    let s = c.args.seg in let e = four (goal.at.returns-then-py-ly c).After-from-ry in
    sym (outside_passes s.a.x s.a.y s.b.x s.b.y c.args.px c.args.py
    (rw (e.0, e.1, e.2, e.3, to_z-of_z c.ranges.px, to_z-of_z c.ranges.py) at c.if-py-ly.true))

pub returns-then-px-lx : goal.returns-then-px-lx
returns-then-px-lx c =
    let s = c.args.seg in let e = four (goal.at.returns-then-px-lx c).After-from-ry in
    rw (e.1, e.3, to_z-of_z c.ranges.py) at c.told.ensures
    ∙ sym (left_result s.a.x s.a.y s.b.x s.b.y c.args.px c.args.py (rw (e.0, e.2, to_z-of_z c.ranges.px) at c.if-px-lx.true))

pub near-requires : goal.near-requires
near-requires c =
    let s = c.args.seg in let r = c.ranges in let e = four (goal.at.near-requires c).After-from-ry in
    rw (to_z-of_z r.px, to_z-of_z r.py)
    (near_box s.a.x s.a.y s.b.x s.b.y c.args.px c.args.py
    (rw (e.0, e.1, e.2, e.3, to_z-of_z r.px, to_z-of_z r.py) at c.if-py-ly.false)
    (rw (e.0, e.2, to_z-of_z r.px) at c.if-px-lx.false))
