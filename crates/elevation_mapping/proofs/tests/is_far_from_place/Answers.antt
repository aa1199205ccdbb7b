use Rattle.std.proofs.Common.{◌*◌, ◌^◌}
use Rattle.std.specs.Prelude.{◌-ℤ◌}
use Rattle.grid_model.specs.Amounts.{square}
use Rattle.grid_model.specs.Squares.{sum_of_squares}
use Rattle.elevation_mapping.proofs.Points.{ArePoints, AreOffsets, true_le, through, place_holds, offsets_hold}
use Rattle.elevation_mapping.proofs.tests.is_far_from_place.Goals as goal

pub returns : goal.returns
returns c h t x y z j i =
    let e = c.place_of.ensures in
    let f = c.offsets.ensures in
    let p : ArePoints c.args.part.now c.place_of.result = record { x_low = e.x_low; x_high = e.x_high; y_low = e.y_low; y_high = e.y_high; z_low = e.z_low; z_high = e.z_high } in
    let d : AreOffsets c.args.turned c.place_of.result c.offsets.result = record { x_low = f.x_low; x_high = f.x_high; y_low = f.y_low; y_high = f.y_high; z_low = f.z_low; z_high = f.z_high } in
    let k = offsets_hold _ _ _ x y z t.x t.y t.z d i (place_holds _ _ t p j) in
    through (square (5 * 10 ^ 12)) c.squares_of.result.lo (sum_of_squares (x -ℤ t.x) (y -ℤ t.y) (z -ℤ t.z)) (true_le (square (5 * 10 ^ 12)) c.squares_of.result.lo h) (c.squares_of.ensures.from (x -ℤ t.x) (y -ℤ t.y) (z -ℤ t.z) k)
