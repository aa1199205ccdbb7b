use Rattle.std.proofs.Common.{arith}
use Rattle.std.proofs.lemmas.Int.{ints}
use Rattle.gnss_model.proofs.spares.delay_spread.Goals as goal

pub spread-requires-clause-amount : goal.spread-requires-clause-amount
spread-requires-clause-amount c =
    let low = c.requires.low c.in-Some.span c.in-Some.is in
    let high = c.requires.high c.in-Some.span c.in-Some.is in
    omega (arith, ints, c.greater_amount.ensures, low.low, low.high, high.low, high.high)
