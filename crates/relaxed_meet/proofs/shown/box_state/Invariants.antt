use Rattle.grid_model.specs.Boxes.{grid_box}
use Rattle.std.proofs.Common.{◌≡◌, ◌≤◌, map, take, length, count_by}
use Rattle.std.specs.Prelude.{ℤ}
use Rattle.sat_model.specs.Relaxed.{ends, holds}
use Rattle.sat_model.specs.ClockSpans.{clock_spans, inner_spans}
use Rattle.relaxed_meet.proofs.shown.box_state.Given as goal

abbrev pub invariant-loop-row : goal.invariant-loop-row
invariant-loop-row l = record {
  spans : map ends l.clocks.items ≡ clock_spans (grid_box l.part) (take l.row-index l.rows);
  count : length l.clocks.items ≡ l.row-index;
  held : (b : ℤ)
      → count_by (λ s. holds s b) (map ends l.inner.items) ≡ count_by (λ s. holds s b) (inner_spans (grid_box l.part) (take l.row-index l.rows));
  inner_count : length l.inner.items ≤ l.row-index;
}
