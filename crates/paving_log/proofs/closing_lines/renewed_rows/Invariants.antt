use Rattle.std.proofs.Common.{◌≡◌, ◌+◌, length, map}
use Rattle.log_lines.specs.declared.line.Place.TheVariants as place
use Rattle.paving_log.specs.Taking.{Takes}
use Rattle.log_lines.specs.Text.{row_line}
use Rattle.paving_log.proofs.closing_lines.renewed_rows.Given as goal

-- the rows so far were taken from the front, and with those that are left they are so many
abbrev pub invariant-rows : goal.invariant-rows
invariant-rows l =
    Takes (place.Steps l.fn.may l.fn.n l.fn.n) l.fn.lines (map row_line l.rows.items) (place.Steps l.fn.may l.fn.n l.left) l.behind × (length l.rows.items + l.left ≡ l.fn.n)

abbrev pub decreases-rows : goal.decreases-rows
decreases-rows l = l.left
