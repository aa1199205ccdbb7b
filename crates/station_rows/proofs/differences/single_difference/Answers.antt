use Rattle.std.proofs.Common.{◌*◌, ◌^◌, lit≤}
use Rattle.std.specs.Prelude.{◌-ℤ◌}
use Rattle.grid_model.proofs.IntervalLemmas.{difference_by}
use Rattle.grid_model.proofs.ProductLemmas.{larger}
use Rattle.sat_model.specs.Relaxed.{ends}
use Rattle.station_rows.specs.Bases.{residual_amount}
use Rattle.station_rows.specs.Differences.{residual_of}
use Rattle.station_rows.specs.Laws.{moved_bound}
use Rattle.station_rows.proofs.DifferenceLemmas.{differ_within, small_ends}
use Rattle.station_rows.proofs.differences.single_difference.Goals as goal

pub minus-difference-requires-clause-low_size : goal.minus-difference-requires-clause-low_size
minus-difference-requires-clause-low_size c = differ_within (56 * 10 ^ 12) residual_amount (10 ^ 38) _ _ (lit≤ tt) (rw c.wide.ensures.low c.requires.receiver.narrow.range.lo) c.residuals-residual.ensures.ends.high

pub minus-difference-requires-clause-high_size : goal.minus-difference-requires-clause-high_size
minus-difference-requires-clause-high_size c = differ_within (56 * 10 ^ 12) residual_amount (10 ^ 38) _ _ (lit≤ tt) (rw c.wide.ensures.high c.requires.receiver.narrow.range.hi) c.residuals-residual.ensures.ends.low

pub span_of-requires-clause-low_size : goal.span_of-requires-clause-low_size
span_of-requires-clause-low_size c =
    let s = c.requires.small in
    let r = c.residuals-residual in
    let near = small_ends c.wide.result.lo c.wide.result.hi r.result.lo r.result.hi c.minus-difference.result.lo c.minus-difference.result.hi s.values.corrected (residual_of s.station_values)
    c.minus-difference.ensures.low c.minus-difference.ensures.high (rw (c.wide.ensures.low, c.wide.ensures.high) s.comes.corrected)
    (r.ensures.holds s.station_delays s.station_values s.station_comes) (rw (c.wide.ensures.low, c.wide.ensures.high) c.requires.receiver.corrected) r.ensures.ends.width s.small in
    larger (56 * 10 ^ 12) (60 * 10 ^ 12) c.minus-difference.result.lo (lit≤ tt) near.lo_within

pub span_of-requires-clause-high_size : goal.span_of-requires-clause-high_size
span_of-requires-clause-high_size c =
    let s = c.requires.small in
    let r = c.residuals-residual in
    let near = small_ends c.wide.result.lo c.wide.result.hi r.result.lo r.result.hi c.minus-difference.result.lo c.minus-difference.result.hi s.values.corrected (residual_of s.station_values)
    c.minus-difference.ensures.low c.minus-difference.ensures.high (rw (c.wide.ensures.low, c.wide.ensures.high) s.comes.corrected)
    (r.ensures.holds s.station_delays s.station_values s.station_comes) (rw (c.wide.ensures.low, c.wide.ensures.high) c.requires.receiver.corrected) r.ensures.ends.width s.small in
    larger (56 * 10 ^ 12) (60 * 10 ^ 12) c.minus-difference.result.hi (lit≤ tt) near.hi_within

pub returns-clause-holds : goal.returns-clause-holds
returns-clause-holds c delays other p chain d f t =
    let r = c.residuals-residual in
    let held = difference_by c.wide.result.lo c.wide.result.hi r.result.lo r.result.hi c.minus-difference.result.lo c.minus-difference.result.hi chain.corrected (residual_of d)
    c.minus-difference.ensures.low c.minus-difference.ensures.high (rw (c.wide.ensures.low, c.wide.ensures.high) f.corrected) (r.ensures.holds other d t) in
    record {
      sent_x = f.sent_x;
      sent_y = f.sent_y;
      sent_in = f.sent_in;
      turn = f.turn;
      corrected = rw (c.span_of.ensures.low, c.span_of.ensures.high) held;
      bound = moved_bound delays (ends c.args.receiver.now.err) p chain (chain.corrected -ℤ residual_of d) f.bound;
    }

pub returns-clause-narrow : goal.returns-clause-narrow
returns-clause-narrow c =
    let s = c.requires.small in
    let r = c.residuals-residual in
    let near = small_ends c.wide.result.lo c.wide.result.hi r.result.lo r.result.hi c.minus-difference.result.lo c.minus-difference.result.hi s.values.corrected (residual_of s.station_values)
    c.minus-difference.ensures.low c.minus-difference.ensures.high (rw (c.wide.ensures.low, c.wide.ensures.high) s.comes.corrected)
    (r.ensures.holds s.station_delays s.station_values s.station_comes) (rw (c.wide.ensures.low, c.wide.ensures.high) c.requires.receiver.corrected) r.ensures.ends.width s.small in
    record {
      place = c.requires.receiver.narrow.place;
      distance = c.requires.receiver.narrow.distance;
      range = record { lo = rw c.span_of.ensures.low near.lo_within; hi = rw c.span_of.ensures.high near.hi_within };
      range_width = rw (c.span_of.ensures.low, c.span_of.ensures.high) near.width;
      err = c.requires.receiver.narrow.err;
    }
