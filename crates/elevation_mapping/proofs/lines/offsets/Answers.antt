use Rattle.std.proofs.Common.{◌*◌, ◌^◌}
use Rattle.fix_interval.proofs.ProductEnds.{amount_of}
use Rattle.elevation_mapping.specs.MappingSizes.{turned_reach}
use Rattle.elevation_mapping.specs.SineSizes.{offset_amount}
use Rattle.elevation_mapping.proofs.Points.{offsets_ends}
use Rattle.elevation_mapping.proofs.lines.offsets.Goals as goal

pub returns-clause-amount : goal.returns-clause-amount
returns-clause-amount c =
    let e = c.minus.ensures in
    let f = c.minus-2.ensures in
    let g = c.minus-3.ensures in
    let q = offsets_ends (2 * turned_reach) (2 * 10 ^ 13) c.args.a c.args.b (record { x = c.minus.result; y = c.minus-2.result; z = c.minus-3.result }) (record { x_low = e.low; x_high = e.high; y_low = f.low; y_high = f.high; z_low = g.low; z_high = g.high }) c.requires.a_size c.requires.b_size in
    record { x_ends = amount_of offset_amount _ _ _ q.x_ends; y_ends = amount_of offset_amount _ _ _ q.y_ends; z_ends = amount_of offset_amount _ _ _ q.z_ends }
