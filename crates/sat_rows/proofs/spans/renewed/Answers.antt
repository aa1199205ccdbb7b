use Rattle.std.proofs.Common.{rules, ◌^◌, ◌*◌, FitsSigned, lit≤}
use Rattle.std.specs.Int.{w64}
use Rattle.std.proofs.lemmas.Int.{to_z-of_z}
use Rattle.earth_rotation.specs.TurnSizes.{near_reach, reach_after}
use Rattle.grid_model.proofs.ProductLemmas.{larger}
use Rattle.sat_rows.proofs.SpanLemmas.{span_holds, span_small, span_place, error_size, paired}
use Rattle.sat_rows.proofs.spans.renewed.Goals as goal

pub returns-clause-holds : goal.returns-clause-holds
returns-clause-holds c p chain inside from =
    let b = c.bounds_over-bounds.result in
    let least_lo : FitsSigned w64 b.low.lo = search rules in
    let greatest_lo : FitsSigned w64 b.low.hi = search rules in
    let least_hi : FitsSigned w64 b.high.lo = search rules in
    let greatest_hi : FitsSigned w64 b.high.hi = search rules in
    let at = c.seen_place-place.ensures.holds p from.sent_x from.sent_y chain.z chain.x chain.y chain.range inside from.sent_in from.turn in
    let ends = c.bounds_over-bounds.ensures.holds p chain inside at from.turn.range_is from.bound in
    record {
      x = span_holds c.seen_place-place.result.x c.span_of.result chain.x c.span_of.ensures.low c.span_of.ensures.high at.x_held;
      y = span_holds c.seen_place-place.result.y c.span_of-2.result chain.y c.span_of-2.ensures.low c.span_of-2.ensures.high at.y_held;
      z = span_holds c.seen_place-place.result.z c.span_of-3.result chain.z c.span_of-3.ensures.low c.span_of-3.ensures.high at.z_held;
      corrected = from.corrected;
      lo = simp to_z-of_z ends.lo;
      hi = simp to_z-of_z ends.hi;
    }

pub span_of-requires-2-clause-low_size : goal.span_of-requires-2-clause-low_size
span_of-requires-2-clause-low_size c = larger (reach_after near_reach) (60 * 10 ^ 12) _ (lit≤ tt) c.seen_place-place.ensures.ends.y_ends.low

pub span_of-requires-2-clause-high_size : goal.span_of-requires-2-clause-high_size
span_of-requires-2-clause-high_size c = larger (reach_after near_reach) (60 * 10 ^ 12) _ (lit≤ tt) c.seen_place-place.ensures.ends.y_ends.high

pub span_of-requires-3-clause-low_size : goal.span_of-requires-3-clause-low_size
span_of-requires-3-clause-low_size c = larger (reach_after near_reach) (60 * 10 ^ 12) _ (lit≤ tt) c.seen_place-place.ensures.ends.z_ends.low

pub span_of-requires-3-clause-high_size : goal.span_of-requires-3-clause-high_size
span_of-requires-3-clause-high_size c = larger (reach_after near_reach) (60 * 10 ^ 12) _ (lit≤ tt) c.seen_place-place.ensures.ends.z_ends.high

pub invariant_of-result : goal.invariant_of-result
invariant_of-result c =
    let b = c.bounds_over-bounds.result in
    let least_lo : FitsSigned w64 b.low.lo = search rules in
    let greatest_hi : FitsSigned w64 b.high.hi = search rules in
    record { ordered = simp to_z-of_z c.bounds_over-bounds.ensures.order }

pub invariant_of-result-2 : goal.invariant_of-result-2
invariant_of-result-2 c =
    let b = c.bounds_over-bounds.result in
    let least_lo : FitsSigned w64 b.low.lo = search rules in
    let greatest_lo : FitsSigned w64 b.low.hi = search rules in
    let least_hi : FitsSigned w64 b.high.lo = search rules in
    let greatest_hi : FitsSigned w64 b.high.hi = search rules in
    let low = c.bounds_over-bounds.ensures.low_small in
    let high = c.bounds_over-bounds.ensures.high_small in
    let e = c.seen_place-place.ensures.ends in
    let x = span_small (reach_after near_reach) (60 * 10 ^ 12) _ c.seen_place-place.result.x c.span_of.result c.span_of.ensures.low c.span_of.ensures.high (lit≤ tt) e.x_ends in
    let y = span_small (reach_after near_reach) (60 * 10 ^ 12) _ c.seen_place-place.result.y c.span_of-2.result c.span_of-2.ensures.low c.span_of-2.ensures.high (lit≤ tt) e.y_ends in
    let z = span_small (reach_after near_reach) (60 * 10 ^ 12) _ c.seen_place-place.result.z c.span_of-3.result c.span_of-3.ensures.low c.span_of-3.ensures.high (lit≤ tt) e.z_ends in
    let range = span_place c.args.base.now.range c.requires.base.range in
    record {
      x_within = (x.lo, x.hi);
      y_within = (y.lo, y.hi);
      z_within = (z.lo, z.hi);
      range_within = (range.lo, range.hi);
      err_within = simp to_z-of_z (error_size b.low.lo low.lo, error_size b.high.hi high.hi);
      sure_within = simp to_z-of_z (error_size b.low.hi low.hi, error_size b.high.lo high.lo);
      low_ordered = simp to_z-of_z b.low.ordered;
      high_ordered = simp to_z-of_z b.high.ordered;
    }

pub returns-clause-bounds_tight : goal.returns-clause-bounds_tight
returns-clause-bounds_tight c =
    let b = c.bounds_over-bounds.result in
    let least_lo : FitsSigned w64 b.low.lo = search rules in
    let greatest_lo : FitsSigned w64 b.low.hi = search rules in
    let least_hi : FitsSigned w64 b.high.lo = search rules in
    let greatest_hi : FitsSigned w64 b.high.hi = search rules in
    record { low = simp to_z-of_z c.bounds_over-bounds.ensures.low_tight; high = simp to_z-of_z c.bounds_over-bounds.ensures.high_tight }

pub returns-clause-plain : goal.returns-clause-plain
returns-clause-plain c none =
    let b = c.bounds_over-bounds.result in
    let least_lo : FitsSigned w64 b.low.lo = search rules in
    let greatest_lo : FitsSigned w64 b.low.hi = search rules in
    let least_hi : FitsSigned w64 b.high.lo = search rules in
    let greatest_hi : FitsSigned w64 b.high.hi = search rules in
    let low = c.bounds_over-bounds.ensures.low_plain none in
    let high = c.bounds_over-bounds.ensures.high_plain none in
    record { err = simp to_z-of_z (paired _ _ c.args.base.now.err low.0 high.1); sure = simp to_z-of_z (paired _ _ c.args.base.now.err low.1 high.0) }

pub returns-clause-small : goal.returns-clause-small
returns-clause-small c =
    let b = c.bounds_over-bounds.result in
    let least_lo : FitsSigned w64 b.low.lo = search rules in
    let greatest_lo : FitsSigned w64 b.low.hi = search rules in
    let least_hi : FitsSigned w64 b.high.lo = search rules in
    let greatest_hi : FitsSigned w64 b.high.hi = search rules in
    let low = c.bounds_over-bounds.ensures.low_small in
    let high = c.bounds_over-bounds.ensures.high_small in
    let e = c.seen_place-place.ensures.ends in
    record {
      x = span_small (reach_after near_reach) (56 * 10 ^ 12) _ c.seen_place-place.result.x c.span_of.result c.span_of.ensures.low c.span_of.ensures.high (lit≤ tt) e.x_ends;
      y = span_small (reach_after near_reach) (56 * 10 ^ 12) _ c.seen_place-place.result.y c.span_of-2.result c.span_of-2.ensures.low c.span_of-2.ensures.high (lit≤ tt) e.y_ends;
      z = span_small (reach_after near_reach) (56 * 10 ^ 12) _ c.seen_place-place.result.z c.span_of-3.result c.span_of-3.ensures.low c.span_of-3.ensures.high (lit≤ tt) e.z_ends;
      range = c.requires.base.range;
      err = record { lo = simp to_z-of_z low.lo; hi = simp to_z-of_z high.hi };
      sure_lo = simp to_z-of_z low.hi;
      sure_hi = simp to_z-of_z high.lo;
    }
