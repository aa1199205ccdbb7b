use Rattle.std.proofs.Common.{ℕ, ◌<◌}
use Rattle.sat_model.specs.Verdicts.{IsRepeat}
use Rattle.paving_log.proofs.own_tests.first_repeat.Given as goal

abbrev pub invariant-loop-k : goal.invariant-loop-k
invariant-loop-k l = (i : ℕ) → i < l.k → IsRepeat l.sats i → ⊥
