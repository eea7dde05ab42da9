-- In the box the place is an i32, and the sign of the cross decides.
use mathlib.Core.Path.{◌≡◌, sym, ◌∙◌}
use mir.Syntax.{w32}
use mir.Val.{SFits}
use mir.Facts.{to_z-of_z}
use Rattle.cross.specs.Cross.{cross, sign_of}
use Rattle.grid.proofs.Within.{box_fits}
use Rattle.grid.proofs.Results.{near_zero, near_above, near_below}
use Rattle.grid.proofs.near.Goals as goal
use Rattle.grid.proofs.near.Goals.{After-cross_sign}

-- the ends' coordinates fit, and so does the place's
ends : (c : After-cross_sign) → let s = c.args.seg in SFits w32 s.a.x × SFits w32 s.a.y × SFits w32 s.b.x × SFits w32 s.b.y
ends c = let e = c.well_formed.0.1.1 in (record { sfits = e.0.1.1.0.1 }, record { sfits = e.0.1.1.1.0.1 }, record { sfits = e.1.0.1.1.0.1 }, record { sfits = e.1.0.1.1.1.0.1 })

place : (c : After-cross_sign) → SFits w32 c.args.px × SFits w32 c.args.py
place c = let s = c.args.seg in let f = ends c in box_fits s.a.x s.a.y s.b.x s.b.y c.args.px c.args.py f.0 f.1 f.2 f.3 c.requires

side : (c : After-cross_sign) → let s = c.args.seg in c.cross_sign.result ≡ sign_of (cross s.a.x s.a.y s.b.x s.b.y c.args.px c.args.py)
side c =
    let f = ends c in let n = place c in let r = c.ranges in
    rw (to_z-of_z f.0, to_z-of_z f.1, to_z-of_z f.2, to_z-of_z f.3, to_z-of_z r.px, to_z-of_z r.py, to_z-of_z n.0, to_z-of_z n.1) at c.cross_sign.ensures

pub returns-in-Zero : goal.returns-in-Zero
returns-in-Zero c =
    let s = c.args.seg in let k = (goal.at.returns-in-Zero c).After-cross_sign in
    near_zero s.a.x s.a.y s.b.x s.b.y c.args.px c.args.py c.requires (sym (side k) ∙ c.in-Zero.is)

pub returns-in-Above : goal.returns-in-Above
returns-in-Above c =
    let s = c.args.seg in let k = (goal.at.returns-in-Above c).After-cross_sign in
    let f = ends k in let n = place k in
    rw (to_z-of_z f.1, to_z-of_z f.3, to_z-of_z c.ranges.py, to_z-of_z n.1) at c.told.ensures
    ∙ near_above s.a.x s.a.y s.b.x s.b.y c.args.px c.args.py (sym (side k) ∙ c.in-Above.is)

pub returns-in-Below : goal.returns-in-Below
returns-in-Below c =
    let s = c.args.seg in let k = (goal.at.returns-in-Below c).After-cross_sign in
    let f = ends k in let n = place k in
    rw (to_z-of_z f.1, to_z-of_z f.3, to_z-of_z c.ranges.py, to_z-of_z n.1) at c.told-in-Below.ensures
    ∙ near_below s.a.x s.a.y s.b.x s.b.y c.args.px c.args.py (sym (side k) ∙ c.in-Below.is)
