use Rattle.std.proofs.Common.{◌≡◌, ◌+◌, ◌≤◌, take}
use Rattle.grid_model.specs.Boxes.{grid_box}
use Rattle.sat_model.specs.ClockSpans.{clock_spans}
use Rattle.relaxed_meet.proofs.InnerLemmas.{held}
use Rattle.relaxed_meet.proofs.offsets.lies_in_most.Given as goal

abbrev pub invariant-loop-row : goal.invariant-loop-row
invariant-loop-row l = record {
  counted : l.missed + held l.offset (clock_spans (grid_box l.part) (take l.row-index l.rows)) ≡ l.row-index;
  few : l.missed ≤ l.q;
}
