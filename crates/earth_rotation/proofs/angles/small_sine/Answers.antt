use Rattle.std.proofs.Common.{◌+◌, ◌*◌, arith, lit≤}
use Rattle.std.proofs.lemmas.Int.{ints}
use Rattle.grid_model.proofs.EndsLemmas.{wider_ends}
use Rattle.fix_interval.proofs.ProductEnds.{amount_of}
use Rattle.interval_trig.proofs.SmallAngles.{small_ends}
use Rattle.earth_rotation.specs.RoundSizes.{angle_amount, sine_amount}
use Rattle.earth_rotation.proofs.angles.small_sine.Goals as goal

pub returns-clause-amount : goal.returns-clause-amount
returns-clause-amount c = amount_of _ _ _ _ (wider_ends (3 * angle_amount + 23) sine_amount (2 * angle_amount + 16) (2 * angle_amount + 16) _ _ (lit≤ tt) (lit≤ tt) (small_ends angle_amount (2 * angle_amount) _ _ _ _ c.requires (lit≤ tt) c.sine.result.ordered c.sine.ensures.width c.sine.ensures.holds))

pub returns-clause-narrow : goal.returns-clause-narrow
returns-clause-narrow c w e =
    let a = returns-clause-amount c in
    let x = c.sine.ensures.width in
    let y = e.width in
    record { order = a.order; low = a.low; high = a.high; width = omega (arith, ints) }
