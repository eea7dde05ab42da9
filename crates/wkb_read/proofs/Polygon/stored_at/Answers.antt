use mir.Syntax.{w32, w64}
use mir.Facts.{to_z-of_z}
use Rattle.wkb_read.proofs.Walk.{storable_fits}
use Rattle.wkb_read.proofs.Polygon.stored_at.Goals as goal

pub overflow_cast-result : goal.overflow_cast-result
overflow_cast-result c =
    let a = c.args.self in
    rw (to_z-of_z {w = w64} (record { sfits = c.rounded.type_inv }), c.rounded.ensures) (storable_fits a.scale _ c.requires.1)

pub returns : goal.returns
returns c =
    let a = c.args.self in
    rw (to_z-of_z {w = w64} (record { sfits = c.rounded.type_inv }), c.rounded.ensures) (to_z-of_z {w = w32} (storable_fits a.scale _ c.requires.1))
