use Rattle.grid_model.specs.Boxes.{grid_box}
use Rattle.std.proofs.Common.{◌≡◌, arith, map}
use Rattle.sat_model.specs.Relaxed.{ends}
use Rattle.sat_model.specs.ClockSpans.{clock_spans, clock_ends}
use Rattle.relaxed_meet.proofs.SpanLemmas.{pushed_ends, all_ends}
use Rattle.relaxed_meet.proofs.shown.clock_hull.Goals as goal

pub loop-row-preserved : goal.loop-row-preserved
loop-row-preserved c = record {
  spans = pushed_ends (clock_ends (grid_box c.args.part.now)) c.args.rows.now _ _ _ _ _ c.loop-row-test.true c.row-item.is
      c.loop-row.invariant.spans c.push.ensures.items c.clock_span.ensures;
  count = omega (arith, c.push.ensures.len);
}

pub returns-clause-none : goal.returns-clause-none
returns-clause-none c =
    let all : map ends c.deref.result.now ≡ clock_spans (grid_box c.args.part.now) c.args.rows.now =
    rw c.deref.ensures.0 (all_ends (clock_ends (grid_box c.args.part.now)) _ _ _ c.loop-row-test.false c.loop-row.invariant.spans) in
    rw all at c.relaxed.ensures.none

pub returns-clause-some : goal.returns-clause-some
returns-clause-some c =
    let all : map ends c.deref.result.now ≡ clock_spans (grid_box c.args.part.now) c.args.rows.now =
    rw c.deref.ensures.0 (all_ends (clock_ends (grid_box c.args.part.now)) _ _ _ c.loop-row-test.false c.loop-row.invariant.spans) in
    rw all at c.relaxed.ensures.some
