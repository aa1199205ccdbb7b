use Rattle.std.proofs.Common.{◌≡◌, List, [], length, Result}
use Rattle.std.specs.List.{filter}
use Rattle.rinex_text.specs.Reading.{body_left}
use Rattle.rinex_text.specs.declared.fault.Refusal.{Refusal}
use Rattle.rinex_obs.specs.Epochs.{Observed, time_before, epochs_from}
use Rattle.rinex_obs.specs.Files.{is_between}
use Rattle.rinex_obs.specs.Reading.{wanted_of, plain_epochs}
use Rattle.rinex_obs.proofs.blocks.read_epochs.Given as goal

-- what the lines that are left give, behind all epochs so far, is what all give
abbrev pub invariant-lines : goal.invariant-lines
invariant-lines l = (all : List Observed)
    × (l.count ≡ length all)
    × (l.before ≡ time_before l.rising all)
    × (plain_epochs l.kept.items ≡ filter (is_between l.from l.to) all)
    × ((answer : Result (List Observed) Refusal) → epochs_from l.rising (wanted_of l.places) all l.left.lines.number 0 (body_left l.left) answer
    → epochs_from l.rising (wanted_of l.places) [] l.fn.body.lines.number 0 (body_left l.fn.body) answer)

abbrev pub decreases-lines : goal.decreases-lines
decreases-lines l = l.left.left
