use Rattle.std.proofs.Common.{length, map, ◌≤◌}
use Rattle.log_lines.specs.declared.line.LogLine.TheVariants as line
use Rattle.log_lines.specs.declared.line.Place.TheVariants as place
use Rattle.paving_log.specs.Taking.{Takes}
use Rattle.paving_log.proofs.read.satellites.Given as goal

-- the satellite lines so far were taken from the front
abbrev pub invariant-satellites : goal.invariant-satellites
invariant-satellites l =
    Takes (place.Satellites l.fn.form l.fn.n 0) l.fn.lines (map line.Sat l.sats.items) (place.Satellites l.fn.form l.fn.n (length l.sats.items)) l.left × (length l.sats.items ≤ 64)

abbrev pub decreases-satellites : goal.decreases-satellites
decreases-satellites l = length l.left.rest.now
