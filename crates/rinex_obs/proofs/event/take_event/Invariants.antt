use Rattle.std.proofs.Common.{◌-◌, ◌≤◌, Result}
use Rattle.rinex_text.specs.Reading.{body_behind, Leaves}
use Rattle.rinex_text.specs.declared.fault.Refusal.{Refusal}
use Rattle.rinex_obs.specs.Epochs.{event_from}
use Rattle.rinex_obs.proofs.event.take_event.Given as goal

-- what the lines that are left give is what all give
abbrev pub invariant-lines : goal.invariant-lines
invariant-lines l = record {
  some : l.missing ≤ l.lines;
  left : Leaves l.fn.body (l.lines - l.missing) l.left;
  lines : (answer : Result (Unit {0}) Refusal)
      → event_from l.both l.labelled l.missing (body_behind l.left) answer
      → event_from l.both l.labelled l.lines (body_behind l.fn.body) answer;
}

abbrev pub decreases-lines : goal.decreases-lines
decreases-lines l = l.missing
