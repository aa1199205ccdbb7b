use Rattle.std.proofs.Common.{◌*◌, ◌^◌, ◌+◌, lit≤}
use Rattle.grid_model.proofs.EndsLemmas.{wider_ends}
use Rattle.sat_clock.specs.ClockSizes.{correction_size}
use Rattle.sat_rows.specs.RowSizes.{pseudorange_amount}
use Rattle.sat_rows.proofs.signals.corrected_range.Goals as goal

pub returns-clause-ends : goal.returns-clause-ends
returns-clause-ends c =
    wider_ends (pseudorange_amount + (15 * 10 ^ 12 + 2)) (56 * 10 ^ 12) 14 14 _ _ (lit≤ tt) (lit≤ tt)
    (c.corrected.ensures.ends pseudorange_amount 8 correction_size 64 (15 * 10 ^ 12) 2 c.requires.range_ends c.requires.dt_ends (lit≤ tt) (lit≤ tt))
