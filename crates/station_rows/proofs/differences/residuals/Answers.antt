use Rattle.std.proofs.Common.{◌*◌, ◌^◌, lit≤}
use Rattle.std.specs.Prelude.{pos}
use Rattle.grid_model.specs.Boxes.{grid_box}
use Rattle.grid_model.proofs.IntervalLemmas.{difference_by}
use Rattle.earth_rotation.specs.RoundSizes.{range_amount, seen_width}
use Rattle.earth_rotation.specs.TurnSizes.{turn_reach, near_reach, narrow_width}
use Rattle.fix_interval.proofs.PlaceLemmas.{wider_place}
use Rattle.station_rows.specs.Bases.{corrected_width, station_range_width, residual_amount, residual_width}
use Rattle.station_rows.proofs.DifferenceLemmas.{ground_point, point_width, at_most, differ_within, difference_width}
use Rattle.station_rows.proofs.differences.residuals.Goals as goal

pub point-at-requires-clause-x_size : goal.point-at-requires-clause-x_size
point-at-requires-clause-x_size c = (ground_point c.args.place.now c.requires.ground).x

pub point-at-requires-clause-y_size : goal.point-at-requires-clause-y_size
point-at-requires-clause-y_size c = (ground_point c.args.place.now c.requires.ground).y

pub point-at-requires-clause-z_size : goal.point-at-requires-clause-z_size
point-at-requires-clause-z_size c = (ground_point c.args.place.now c.requires.ground).z

pub seen_range-range-requires : goal.seen_range-range-requires
seen_range-range-requires c = wider_place near_reach turn_reach narrow_width (2 * turn_reach) _ (lit≤ tt) (lit≤ tt) c.requires.base.narrow.place

pub minus-requires-clause-low_size : goal.minus-requires-clause-low_size
minus-requires-clause-low_size c = differ_within (56 * 10 ^ 12) range_amount (10 ^ 38) _ _ (lit≤ tt) (rw c.wide.ensures.low c.requires.base.narrow.range.lo) c.seen_range-range.ensures.amount.high

pub minus-requires-clause-high_size : goal.minus-requires-clause-high_size
minus-requires-clause-high_size c = differ_within (56 * 10 ^ 12) range_amount (10 ^ 38) _ _ (lit≤ tt) (rw c.wide.ensures.high c.requires.base.narrow.range.hi) c.seen_range-range.ensures.amount.low

pub returns-clause-holds : goal.returns-clause-holds
returns-clause-holds c delays d t =
    let range = c.seen_range-range.ensures.holds c.args.place.now t.sent_x t.sent_y d.z d.x d.y d.range c.point-at.ensures.holds t.sent_in t.turn in
    difference_by c.wide.result.lo c.wide.result.hi c.seen_range-range.result.lo c.seen_range-range.result.hi c.minus.result.lo c.minus.result.hi
    d.corrected (pos d.range) c.minus.ensures.low c.minus.ensures.high (rw (c.wide.ensures.low, c.wide.ensures.high) t.corrected) range

pub returns-clause-ends : goal.returns-clause-ends
returns-clause-ends c =
    let at = grid_box c.point-at.result in
    let range = c.seen_range-range.result in
    let narrow = c.requires.base.narrow in
    let width = at_most (seen_width at) station_range_width _ (point_width at c.point-at.ensures.small) (c.seen_range-range.ensures.narrow narrow.place).width in
    record {
      order = c.minus.result.ordered;
      low = rw c.minus.ensures.low (differ_within (56 * 10 ^ 12) range_amount residual_amount c.wide.result.lo range.hi (lit≤ tt) (rw c.wide.ensures.low narrow.range.lo) c.seen_range-range.ensures.amount.high);
      high = rw c.minus.ensures.high (differ_within (56 * 10 ^ 12) range_amount residual_amount c.wide.result.hi range.lo (lit≤ tt) (rw c.wide.ensures.high narrow.range.hi) c.seen_range-range.ensures.amount.low);
      width = difference_width corrected_width station_range_width residual_width c.wide.result.lo c.wide.result.hi range.lo range.hi c.minus.result.lo c.minus.result.hi (lit≤ tt) c.minus.ensures.low c.minus.ensures.high
          (rw (c.wide.ensures.low, c.wide.ensures.high) c.requires.base.corrected) width;
    }
