use Rattle.std.proofs.Common.{◌≡◌, ◌+◌, drop}
use Rattle.paving_log_check.specs.Renewed.{lines_in_renewals}
use Rattle.paving_log_check.proofs.counts.renewal_lines.Given as goal

abbrev pub invariant-loop-renewal : goal.invariant-loop-renewal
invariant-loop-renewal l = l.lines + lines_in_renewals (drop l.renewal-index l.renewals) ≡ lines_in_renewals l.renewals
