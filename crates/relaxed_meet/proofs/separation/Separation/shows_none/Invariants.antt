use Rattle.std.proofs.Common.{◌≡◌, ◌≤◌, ℤ}
use Rattle.grid_model.specs.Boxes.{grid_box}
use Rattle.sat_model.specs.ClockSpans.{clock_spans}
use Rattle.relaxed_meet.specs.Separated.{lows_above}
use Rattle.relaxed_meet.proofs.SeparatedLemmas.{ArePartedFrom}
use Rattle.relaxed_meet.proofs.separation.Separation.shows_none.Given as goal

abbrev pub invariant-loop-passed : goal.invariant-loop-passed
invariant-loop-passed l = record {
  last : l.last ≡ l.fn.q;
  parted : (high : ℤ) → l.fn.above ≤ lows_above high (clock_spans (grid_box l.part) l.rows)
      → ArePartedFrom l.last l.passed high (clock_spans (grid_box l.part) l.rows);
}
