use Rattle.std.proofs.Common.{◌≤◌, take}
use Rattle.grid_model.specs.Boxes.{grid_box}
use Rattle.sat_model.specs.ClockSpans.{clock_spans}
use Rattle.relaxed_meet.specs.Separated.{lows_above}
use Rattle.relaxed_meet.proofs.counts.count_above.Given as goal

abbrev pub invariant-loop-row : goal.invariant-loop-row
invariant-loop-row l = record {
  counted : l.count ≤ lows_above l.offset (clock_spans (grid_box l.part) (take l.row-index l.rows));
  seen : l.count ≤ l.row-index;
}
