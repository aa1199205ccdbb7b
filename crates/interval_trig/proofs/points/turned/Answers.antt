use Rattle.std.proofs.Common.{arith}
use Rattle.std.proofs.lemmas.Int.{ints}
use Rattle.interval_trig.proofs.Rests.{turn_sine, turn_cosine, turn_less_sine, turn_less_cosine}
use Rattle.interval_trig.proofs.points.turned.Goals as goal

pub returns-in-0-clause-value : goal.returns-in-0-clause-value
returns-in-0-clause-value c = turn_sine c.args.turn c.args.r _ _ _ c.in-0.is (omega (arith, ints)) (omega (arith, ints)) c.sine_at.ensures.value

pub returns-in-1-clause-value : goal.returns-in-1-clause-value
returns-in-1-clause-value c = turn_cosine c.args.turn c.args.r _ _ _ c.in-1.is (omega (arith, ints)) (omega (arith, ints)) c.cosine_at.ensures.value

pub returns-in-2-clause-value : goal.returns-in-2-clause-value
returns-in-2-clause-value c = turn_less_sine c.args.turn c.args.r _ _ _ c.in-2.is (omega (arith, ints)) (omega (arith, ints)) c.sine_at-in-2.ensures.value

pub returns-in_default-clause-value : goal.returns-in_default-clause-value
returns-in_default-clause-value c = turn_less_cosine c.args.turn c.args.r _ _ _ (omega arith) (omega (arith, ints)) (omega (arith, ints)) c.cosine_at-in_default.ensures.value

pub returns-in-2-clause-size : goal.returns-in-2-clause-size
returns-in-2-clause-size c = record { low = omega (arith, ints); high = omega (arith, ints) }

pub returns-in_default-clause-size : goal.returns-in_default-clause-size
returns-in_default-clause-size c = record { low = omega (arith, ints); high = omega (arith, ints) }
