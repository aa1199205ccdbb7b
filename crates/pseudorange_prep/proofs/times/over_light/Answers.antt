use Rattle.std.proofs.Common.{lit≤, ◌^◌, ◌*◌, ◌-◌}
use Rattle.gnss_model.specs.EarthModel.{light_speed}
use Rattle.pseudorange_prep.proofs.WidthLemmas.{times_one_number, amount_ends, narrow_ends}
use Rattle.pseudorange_prep.proofs.times.over_light.Goals as goal

pub returns-clause-ends : goal.returns-clause-ends
returns-clause-ends c =
    times_one_number (10 ^ 15) (2 * 10 ^ 15) (10 ^ 6) (4 * 10 ^ 12 - 2) (8 * 10 ^ 12 - 4) light_speed _ _ _ _ (amount_ends (10 ^ 15) _ _ c.args.length.ordered c.requires.low_size c.requires.high_size) (record { lt = tt }) (lit≤ tt) (lit≤ tt) c.times_over.result.ordered c.times_over.ensures.tight

pub returns-clause-width : goal.returns-clause-width
returns-clause-width c f =
    let e = times_one_number (10 ^ 15) 1008 (10 ^ 6) (4 * 10 ^ 12) 4 light_speed _ _ _ _ (narrow_ends (10 ^ 15) 1008 _ _ c.args.length.ordered c.requires.low_size c.requires.high_size f) (record { lt = tt }) (lit≤ tt) (lit≤ tt) c.times_over.result.ordered c.times_over.ensures.tight in
    record { width = e.width }
