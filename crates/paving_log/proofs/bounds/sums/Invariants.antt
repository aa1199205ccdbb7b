use Rattle.std.proofs.Common.{◌≡◌, ◌+◌, length, map}
use Rattle.log_lines.specs.declared.line.LogLine.TheVariants as line
use Rattle.log_lines.specs.declared.line.Place.TheVariants as place
use Rattle.paving_log.specs.Taking.{Takes}
use Rattle.paving_log.proofs.bounds.sums.Given as goal

-- the sums so far were taken from the front, and with those that are left they are so many
abbrev pub invariant-sums : goal.invariant-sums
invariant-sums l =
    Takes (place.Bounds l.fn.form l.fn.n) l.fn.lines (map line.By l.sums.items) (place.Bounds l.fn.form l.left) l.behind × (length l.sums.items + l.left ≡ l.fn.n)

abbrev pub decreases-sums : goal.decreases-sums
decreases-sums l = l.left
