use Rattle.std.proofs.Common.{arith}
use Rattle.std.proofs.lemmas.Int.{ints}
use Rattle.row_pairs.proofs.QuotientLemmas.{guess_small}
use Rattle.row_pairs.proofs.bounds.guessed.Goals as goal

pub returns-then-num-lt0 : goal.returns-then-num-lt0
returns-then-num-lt0 c =
    let s = guess_small c.unsigned_abs-amount.result c.from.result c.if-amount-ge-GUESS_LIMIT.false (omega (arith, c.from.ensures)) in
    record { low = omega (arith, ints, s); high = omega (arith, ints, s) }

pub returns-else-num-lt0 : goal.returns-else-num-lt0
returns-else-num-lt0 c =
    let s = guess_small c.unsigned_abs-amount.result c.from.result c.if-amount-ge-GUESS_LIMIT.false (omega (arith, c.from.ensures)) in
    record { low = omega (arith, ints, s); high = omega (arith, ints, s) }
