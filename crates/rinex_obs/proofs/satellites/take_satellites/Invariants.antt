use Rattle.std.proofs.Common.{List, [], ◌-◌, ◌≤◌, vec_len, Result}
use Rattle.rinex_text.specs.Reading.{body_behind, Leaves}
use Rattle.rinex_text.specs.declared.fault.Refusal.{Refusal}
use Rattle.rinex_obs.specs.Epochs.{satellites_from}
use Rattle.rinex_obs.specs.Reading.{wanted_of}
use Rattle.rinex_obs.specs.declared.obs.SatObs.{SatObs}
use Rattle.rinex_obs.proofs.satellites.take_satellites.Given as goal

-- what the lines that are left give, behind the satellites so far, is what all give
abbrev pub invariant-lines : goal.invariant-lines
invariant-lines l = record {
  some : l.missing ≤ l.lines;
  few : vec_len l.sats ≤ 64;
  left : Leaves l.fn.body (l.lines - l.missing) l.left;
  lines : (answer : Result (List SatObs) Refusal)
      → satellites_from (wanted_of l.places) l.missing l.sats.items (body_behind l.left) answer
      → satellites_from (wanted_of l.places) l.lines [] (body_behind l.fn.body) answer;
}

abbrev pub decreases-lines : goal.decreases-lines
decreases-lines l = l.missing
