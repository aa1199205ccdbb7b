use Rattle.std.proofs.Common.{◌*◌, ◌+◌, ◌/◌, ◌^◌, arith, lit≤}
use Rattle.std.specs.Prelude.{pos}
use Rattle.gnss_model.specs.EarthModel.{earth_rate, light_speed}
use Rattle.grid_model.specs.Intervals.{Ends}
use Rattle.grid_model.proofs.EndsLemmas.{wider_ends, product_ends}
use Rattle.grid_model.proofs.IntervalLemmas.{low_member}
use Rattle.fix_interval.proofs.ProductEnds.{amount_of}
use Rattle.earth_rotation.specs.RoundSizes.{range_amount, angle_amount, angle_width}
use Rattle.earth_rotation.proofs.TurnWidths.{rate_spread}
use Rattle.earth_rotation.proofs.angles.earth_angle.Goals as goal

pub returns-clause-holds : goal.returns-clause-holds
returns-clause-holds c r a h n = c.times_over.ensures.holds (pos earth_rate) (pos r) a (low_member _ _ (record { le = tt })) h n

rate_ends : Ends earth_rate 0 (pos earth_rate) (pos earth_rate)
rate_ends = record { order = record { le = tt }; low = record { low = record { le = tt }; high = record { le = tt } }; high = record { low = record { le = tt }; high = record { le = tt } }; width = record { le = tt } }

pub returns-clause-narrow : goal.returns-clause-narrow
returns-clause-narrow c v e = wider_ends _ angle_amount (v / 400 + 1 + 4) (angle_width v) _ _ (lit≤ tt) (omega arith) (product_ends earth_rate 0 range_amount v 299183698293 (v / 400 + 1) _ _ _ _ (pos (light_speed * 10 ^ 12)) _ _ rate_ends e (record { lt = tt }) (record { le = tt }) (rate_spread v) c.times_over.result.ordered c.times_over.ensures.tight)

pub returns-clause-amount : goal.returns-clause-amount
returns-clause-amount c = amount_of _ _ _ _ (returns-clause-narrow c (2 * range_amount) c.requires)
