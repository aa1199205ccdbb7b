use Rattle.std.proofs.Common.{◌≡◌, ◌++◌, drop}
use Rattle.sat_model.specs.Logs.{rows_of}
use Rattle.paving_log.proofs.entries.rows_among.Given as goal

abbrev pub invariant-loop-entry : goal.invariant-loop-entry
invariant-loop-entry l = l.rows.items ++ rows_of (drop l.entry-index l.sats) ≡ rows_of l.sats
