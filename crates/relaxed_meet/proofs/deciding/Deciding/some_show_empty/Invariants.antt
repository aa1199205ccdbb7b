use Rattle.std.proofs.Common.{◌≡◌, ◌+◌, take}
use Rattle.grid_model.specs.Boxes.{grid_box}
use Rattle.sat_model.specs.ClockSpans.{clock_spans}
use Rattle.relaxed_meet.proofs.SomeLemmas.{AreSomeRead}
use Rattle.relaxed_meet.proofs.deciding.Deciding.some_show_empty.Given as goal

abbrev pub invariant-loop-row : goal.invariant-loop-row
invariant-loop-row l = record {
  most : l.most ≡ l.fn.q + 1;
  read : AreSomeRead l.most l.lows.items l.highs.items (clock_spans (grid_box l.part) (take l.row-index l.rows));
}
