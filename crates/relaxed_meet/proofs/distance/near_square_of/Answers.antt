use Rattle.std.proofs.Common.{arith}
use Rattle.std.proofs.lemmas.Int.{ints}
use Rattle.grid_model.specs.Amounts.{least_amount}
use Rattle.relaxed_meet.proofs.SquareLemmas.{at_ends, sum_same}
use Rattle.relaxed_meet.proofs.distance.near_square_of.Goals as goal

pub returns-clause-value : goal.returns-clause-value
returns-clause-value c =
    sum_same _ _ _ _ _ _ _ c.sum_of_squares.ensures.value
    (at_ends least_amount _ _ _ _ _ _ _ _ _ c.least.ensures.value (omega (arith, ints)) (omega (arith, ints)) (omega (arith, ints)) (omega (arith, ints)))
    (at_ends least_amount _ _ _ _ _ _ _ _ _ c.least-2.ensures.value (omega (arith, ints)) (omega (arith, ints)) (omega (arith, ints)) (omega (arith, ints)))
    (at_ends least_amount _ _ _ _ _ _ _ _ _ c.least-3.ensures.value (omega (arith, ints)) (omega (arith, ints)) (omega (arith, ints)) (omega (arith, ints)))
