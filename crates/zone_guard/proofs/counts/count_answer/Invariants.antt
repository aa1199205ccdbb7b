use Rattle.std.proofs.Common.{◌≡◌, ◌≤◌, take}
use Rattle.std.specs.List.{count_by}
use Rattle.zone_guard.specs.Counted.{is_answer, finding_at}
use Rattle.zone_guard.specs.declared.found.EpochFindings.{EpochFindings}
use Rattle.zone_guard.proofs.counts.count_answer.Given as goal

abbrev pub invariant-loop-epoch : goal.invariant-loop-epoch
invariant-loop-epoch l = record {
  counted : l.count ≡ count_by (λ (e : EpochFindings). is_answer l.wanted (finding_at l.place e)) (take l.epoch-index l.epochs);
  few : l.count ≤ l.epoch-index;
}
