use Rattle.std.proofs.Common.{◌≡◌, ◌≤◌, take}
use Rattle.std.specs.List.{count_by}
use Rattle.zone_guard.specs.Counted.{is_few}
use Rattle.zone_guard.proofs.counts.count_few.Given as goal

abbrev pub invariant-loop-epoch : goal.invariant-loop-epoch
invariant-loop-epoch l = record {
  counted : l.count ≡ count_by is_few (take l.epoch-index l.epochs);
  few : l.count ≤ l.epoch-index;
}
