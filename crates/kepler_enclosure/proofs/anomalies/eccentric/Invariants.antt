use Rattle.kepler_enclosure.proofs.Narrowing.{Narrowing}
use Rattle.kepler_enclosure.proofs.anomalies.eccentric.Given as goal

abbrev pub invariant-loop-excess : goal.invariant-loop-excess
invariant-loop-excess l = Narrowing l.m.lo l.m.hi l.e.lo l.e.hi l.x.lo l.x.hi l.excess

abbrev pub decreases-loop-excess : goal.decreases-loop-excess
decreases-loop-excess l = l.excess
