use Rattle.std.proofs.Common.{arith}
use Rattle.grid_model.proofs.SquareLemmas.{square_between}
use Rattle.fix_interval.proofs.distance.squared_distance.Goals as goal

pub returns-clause-from : goal.returns-clause-from
returns-clause-from g c a b d p q r =
    let x = square_between _ _ a p in
    let y = square_between _ _ b q in
    let z = square_between _ _ d r in
    omega (arith, c.area_sum-2.ensures.low, c.area_sum.ensures.low, c.square.ensures.low, c.square-2.ensures.low, c.square-3.ensures.low, x.0, y.0, z.0)

pub returns-clause-to : goal.returns-clause-to
returns-clause-to g c a b d p q r =
    let x = square_between _ _ a p in
    let y = square_between _ _ b q in
    let z = square_between _ _ d r in
    omega (arith, c.area_sum-2.ensures.high, c.area_sum.ensures.high, c.square.ensures.high, c.square-2.ensures.high, c.square-3.ensures.high, x.1, y.1, z.1)
