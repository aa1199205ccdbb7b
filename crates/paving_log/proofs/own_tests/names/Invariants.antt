use Rattle.std.proofs.Common.{◌≢◌, ℕ, ◌<◌, get_or, map}
use Rattle.sat_model.specs.Logs.{sat_of}
use Rattle.paving_log.proofs.own_tests.names.Given as goal

abbrev pub invariant-loop-entry : goal.invariant-loop-entry
invariant-loop-entry l = (i : ℕ) → i < l.entry-index → get_or (map sat_of l.sats) i l.sat ≢ l.sat
