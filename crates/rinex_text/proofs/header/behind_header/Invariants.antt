use Rattle.std.proofs.Common.{length, Result}
use Rattle.rinex_text.specs.declared.fault.Refusal.{Refusal}
use Rattle.rinex_text.specs.Headers.{Behind, header_from}
use Rattle.rinex_text.specs.Reading.{lines_left}
use Rattle.rinex_text.proofs.header.behind_header.Given as goal

-- what the lines that are left give is what all give
abbrev pub invariant-header : goal.invariant-header
invariant-header l = (answer : Result Behind Refusal) → header_from l.left.number (lines_left l.left) answer → header_from l.fn.lines.number (lines_left l.fn.lines) answer

abbrev pub decreases-header : goal.decreases-header
decreases-header l = length l.left.rest.now
