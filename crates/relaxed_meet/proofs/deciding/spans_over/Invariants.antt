use Rattle.grid_model.specs.Boxes.{grid_box}
use Rattle.std.proofs.Common.{◌≡◌, map, take, length}
use Rattle.sat_model.specs.Relaxed.{ends}
use Rattle.sat_model.specs.ClockSpans.{clock_spans}
use Rattle.relaxed_meet.proofs.deciding.spans_over.Given as goal

abbrev pub invariant-loop-row : goal.invariant-loop-row
invariant-loop-row l = record {
  spans : map ends l.spans.items ≡ clock_spans (grid_box l.part) (take l.row-index l.rows);
  count : length l.spans.items ≡ l.row-index;
}
