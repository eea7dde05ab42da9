use Rattle.std.proofs.Common.{◌≡◌, ◌+◌, ◌*◌, rules, add-zero, to_z, of_z, w64}
use mir.Facts.{to_z-of_z}
use Rattle.outline_record.specs.Record.{number_at}
use Rattle.outline_record.proofs.grid_box_holds.Goals as goal

pub returns : goal.returns
returns c =
    let boxes = c.args.boxes.now in
    let k = c.args.k in
    let west : to_z w64 (of_z w64 c.side.result) ≡ number_at boxes (4 * k + 0) = search rules in
    let east : to_z w64 (of_z w64 c.side-2.result) ≡ number_at boxes (4 * k + 2) = search rules in
    let south : to_z w64 (of_z w64 c.side-3.result) ≡ number_at boxes (4 * k + 1) = search rules in
    let north : to_z w64 (of_z w64 c.side-4.result) ≡ number_at boxes (4 * k + 3) = search rules in
    rw (to_z-of_z c.ranges.x, to_z-of_z c.ranges.y, west, east, south, north, add-zero)
