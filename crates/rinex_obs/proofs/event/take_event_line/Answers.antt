use Rattle.std.proofs.Common.{inr}
use Rattle.rinex_text.specs.Reading.{plain_line, body_left}
use Rattle.rinex_obs.proofs.event.take_event_line.Goals as goal

pub returns-in-Err-clause-failed : goal.returns-in-Err-clause-failed
returns-in-Err-clause-failed c =
    record { fails = inr (plain_line c.in-Some.line, body_left c.in-Some.behind, c.in-Err.fault, c.in-Some.ensures.line, c.in-Err.ensures, c.new-in-Err.ensures) }
