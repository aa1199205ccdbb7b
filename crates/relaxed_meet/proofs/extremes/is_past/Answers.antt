use Rattle.std.proofs.Common.{arith}
use Rattle.std.proofs.lemmas.Int.{ints}
use Rattle.relaxed_meet.proofs.FallingLemmas.{above_past}
use Rattle.relaxed_meet.proofs.extremes.is_past.Goals as goal

pub returns-then-kept-most-clause-same_above : goal.returns-then-kept-most-clause-same_above
returns-then-kept-most-clause-same_above c = λ t b.
    above_past c.args.kept.now c.args.number b c.args.most c.requires.falling (omega (arith, c.if-most-eq0.false)) c.if-kept-most.true (omega (arith, ints, t))
