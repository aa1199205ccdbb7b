use Rattle.std.proofs.Common.{length}
use Rattle.paving_log.proofs.CountedLemmas.{TakesCounted}
use Rattle.paving_log.proofs.closing_lines.events.Given as goal

-- the steps that were counted and the renewals so far were taken from the front
abbrev pub invariant-events : goal.invariant-events
invariant-events l = TakesCounted l.fn.may l.fn.n l.fn.lines l.count l.kept l.renewals.items l.left

abbrev pub decreases-events : goal.decreases-events
decreases-events l = length l.left.rest.now
