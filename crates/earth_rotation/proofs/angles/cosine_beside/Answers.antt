use Rattle.std.proofs.Common.{arith, ◌*◌}
use Rattle.grid_model.proofs.SquareLemmas.{greatest_square_le}
use Rattle.fix_interval.proofs.ProductEnds.{amount_of}
use Rattle.earth_rotation.specs.RoundSizes.{sine_amount}
use Rattle.earth_rotation.proofs.CircleRoots.{circle_held, circle_ends}
use Rattle.earth_rotation.proofs.angles.cosine_beside.Goals as goal

pub overflow_sub-squares : goal.overflow_sub-squares
overflow_sub-squares c = omega (arith, c.square-squares.ensures.high, greatest_square_le sine_amount _ _ c.requires.low c.requires.high)

pub returns-clause-holds : goal.returns-clause-holds
returns-clause-holds c s d i n k = circle_held _ _ s d _ _ _ _ c.square-squares.ensures.low c.square-squares.ensures.high c.root.ensures.low c.root.ensures.high i n k

pub returns-clause-narrow : goal.returns-clause-narrow
returns-clause-narrow c w e = circle_ends w _ _ _ _ _ _ e c.square-squares.ensures.low c.square-squares.ensures.high c.root.ensures.low c.root.ensures.high

pub returns-clause-amount : goal.returns-clause-amount
returns-clause-amount c = amount_of _ _ _ _ (returns-clause-narrow c (2 * sine_amount) c.requires)
