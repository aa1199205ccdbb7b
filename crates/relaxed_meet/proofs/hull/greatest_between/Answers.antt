use Rattle.std.proofs.Common.{arith}
use Rattle.std.proofs.lemmas.Int.{ints}
use Rattle.relaxed_meet.proofs.BetweenLemmas.{greatest_from, none_greatest}
use Rattle.relaxed_meet.proofs.hull.greatest_between.Goals as goal

pub returns-in-Some : goal.returns-in-Some
returns-in-Some c = greatest_from c.args.lows.now c.args.highs.now c.in-Some.mirrored _ c.requires.pairs c.in-Some.ensures (omega (arith, ints))

pub returns-in-None : goal.returns-in-None
returns-in-None c = none_greatest c.args.lows.now c.args.highs.now c.requires.pairs c.in-None.ensures
