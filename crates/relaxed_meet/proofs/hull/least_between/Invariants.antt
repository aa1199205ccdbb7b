use Rattle.std.proofs.Common.{◌≡◌, length}
use Rattle.relaxed_meet.proofs.BetweenLemmas.{ApartBelow}
use Rattle.relaxed_meet.proofs.hull.least_between.Given as goal

abbrev pub invariant-loop-passed : goal.invariant-loop-passed
invariant-loop-passed l = record {
  last : l.last ≡ length l.lows;
  apart : ApartBelow l.lows l.highs l.passed;
}
