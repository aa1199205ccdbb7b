use Rattle.std.proofs.Common.{arith}
use Rattle.std.proofs.lemmas.Int.{ints}
use Rattle.error_bounds.proofs.FormLemmas.{same_pair}
use Rattle.error_bounds.proofs.bounds.sum.Goals as goal

pub returns-clause-within : goal.returns-clause-within
returns-clause-within c = λ n h. record {
  lo = record { low = omega (arith, ints, h.lo); high = omega (arith, ints, h.lo) };
  hi = record { low = omega (arith, ints, h.hi); high = omega (arith, ints, h.hi) };
}

pub returns-clause-value : goal.returns-clause-value
returns-clause-value c = same_pair _ _ _ _ (omega (arith, ints)) (omega (arith, ints))
