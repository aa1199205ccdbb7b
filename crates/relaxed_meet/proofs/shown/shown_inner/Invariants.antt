use Rattle.grid_model.specs.Boxes.{grid_box}
use Rattle.std.proofs.Common.{◌≡◌, ◌≤◌, map, take, length, count_by}
use Rattle.std.specs.Prelude.{ℤ}
use Rattle.sat_model.specs.Relaxed.{ends, holds}
use Rattle.sat_model.specs.ClockSpans.{inner_spans}
use Rattle.relaxed_meet.proofs.shown.shown_inner.Given as goal

abbrev pub invariant-loop-row : goal.invariant-loop-row
invariant-loop-row l = record {
  held : (b : ℤ)
      → count_by (λ s. holds s b) (map ends l.spans.items) ≡ count_by (λ s. holds s b) (inner_spans (grid_box l.part) (take l.row-index l.rows));
  count : length l.spans.items ≤ l.row-index;
}
