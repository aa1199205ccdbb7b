use Rattle.std.proofs.Common.{length, Result}
use Rattle.rinex_text.specs.Reading.{lines_left}
use Rattle.rinex_text.specs.declared.fault.Refusal.{Refusal}
use Rattle.rinex_obs.specs.Header.{Header, Start, header_lines}
use Rattle.rinex_obs.specs.Files.{unread}
use Rattle.rinex_obs.specs.Reading.{IsHeader}
use Rattle.rinex_obs.proofs.header.read_header.Given as goal

-- what the lines that are left give, behind what is known, is what all give
abbrev pub invariant-header : goal.invariant-header
invariant-header l =
    (known : Header) × IsHeader l.sought known l.header × ((answer : Result Start Refusal) → header_lines l.sought l.position known l.left.number (lines_left l.left) answer → header_lines l.sought l.position unread l.fn.lines.number (lines_left l.fn.lines) answer)

abbrev pub decreases-header : goal.decreases-header
decreases-header l = length l.left.rest.now
