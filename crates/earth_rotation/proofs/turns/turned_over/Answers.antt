use Rattle.std.proofs.Common.{◌+◌, ◌*◌, ◌/◌, arith, lit≤}
use Rattle.grid_model.proofs.EndsLemmas.{wider_ends}
use Rattle.grid_model.proofs.IntervalLemmas.{member_within}
use Rattle.fix_interval.specs.Factors.{factor_bound}
use Rattle.fix_interval.proofs.ProductEnds.{spread_by, amount_of, spread}
use Rattle.interval_trig.proofs.CircleLaw.{sine_and_cosine}
use Rattle.interval_trig.proofs.SmallAngles.{cosine_natural}
use Rattle.earth_rotation.specs.TurnSizes.{turn_reach, near_reach, narrow_width, reach_after}
use Rattle.earth_rotation.specs.RoundSizes.{angle_amount, sine_amount, cosine_amount, angle_width, sine_width, cosine_width, turned_width}
use Rattle.earth_rotation.proofs.TurnWidths.{cosine_reach, sine_reach, reach_sum, cosine_spread, sine_spread, turned_spread}
use Rattle.earth_rotation.proofs.turns.turned_over.Goals as goal

pub sum_of_products-requires-clause-a_size : goal.sum_of_products-requires-clause-a_size
sum_of_products-requires-clause-a_size c = wider_ends turn_reach factor_bound _ _ _ _ (lit≤ tt) (lit≤ tt) c.requires.size.x_ends

pub sum_of_products-requires-clause-c_size : goal.sum_of_products-requires-clause-c_size
sum_of_products-requires-clause-c_size c = wider_ends turn_reach factor_bound _ _ _ _ (lit≤ tt) (lit≤ tt) c.requires.size.y_ends

pub difference_of_products-requires-clause-a_size : goal.difference_of_products-requires-clause-a_size
difference_of_products-requires-clause-a_size c = wider_ends turn_reach factor_bound _ _ _ _ (lit≤ tt) (lit≤ tt) c.requires.size.y_ends

pub difference_of_products-requires-clause-c_size : goal.difference_of_products-requires-clause-c_size
difference_of_products-requires-clause-c_size c = wider_ends turn_reach factor_bound _ _ _ _ (lit≤ tt) (lit≤ tt) c.requires.size.x_ends

pub difference_of_products-requires-clause-d_size : goal.difference_of_products-requires-clause-d_size
difference_of_products-requires-clause-d_size c = wider_ends sine_amount factor_bound _ _ _ _ (lit≤ tt) (lit≤ tt) c.small_sine-sine.ensures.amount

pub returns-clause-holds : goal.returns-clause-holds
returns-clause-holds c r x y z tx ty hr h t =
    let a = c.earth_angle.ensures.holds r t.angle hr t.angle_is in
    let s = c.small_sine-sine.ensures.holds t.angle t.sin_angle a t.sin_angle_is in
    let n = cosine_natural angle_amount t.angle t.cos_angle (lit≤ tt) (member_within angle_amount _ _ _ t.angle c.earth_angle.ensures.amount a) t.cos_angle_is in
    let k = c.cosine_beside-cosine.ensures.holds t.sin_angle t.cos_angle s n (sine_and_cosine t.angle t.sin_angle t.cos_angle t.sin_angle_is t.cos_angle_is) in
    record {
      x_held = c.sum_of_products.ensures.holds x t.cos_angle y t.sin_angle tx h.x_held k h.y_held s t.x_is;
      y_held = c.difference_of_products.ensures.holds y t.cos_angle x t.sin_angle ty h.y_held k h.x_held s t.y_is;
      z_held = h.z_held;
    }

pub returns-clause-sizes : goal.returns-clause-sizes
returns-clause-sizes c n h p =
    let s = c.small_sine-sine.ensures.amount in
    let k = c.cosine_beside-cosine.ensures.amount in
    let xc = spread_by n cosine_amount _ _ p.x_ends k (n + 1) (cosine_reach n h) in
    let yc = spread_by n cosine_amount _ _ p.y_ends k (n + 1) (cosine_reach n h) in
    let xs = spread_by n sine_amount _ _ p.x_ends s (n / 10000 + 1) (sine_reach n) in
    let ys = spread_by n sine_amount _ _ p.y_ends s (n / 10000 + 1) (sine_reach n) in
    let tx = c.sum_of_products.ensures.ends _ _ _ _ xc ys in
    let ty = c.difference_of_products.ensures.ends _ _ _ _ yc xs in
    let w = (4 * (n + 1) + 4) + (4 * (n / 10000 + 1) + 4) in
    record {
      x_ends = amount_of _ _ _ _ (wider_ends _ (reach_after n) w w _ _ (reach_sum n) (omega arith) tx);
      y_ends = amount_of _ _ _ _ (wider_ends _ (reach_after n) w w _ _ (reach_sum n) (omega arith) ty);
      z_ends = amount_of _ _ _ _ (wider_ends n (reach_after n) (2 * n) (2 * n) _ _ (omega arith) (omega arith) p.z_ends);
    }

pub returns-clause-narrow : goal.returns-clause-narrow
returns-clause-narrow c v p e =
    let s = c.small_sine-sine.ensures.narrow (angle_width v) (c.earth_angle.ensures.narrow v e) in
    let k = c.cosine_beside-cosine.ensures.narrow (sine_width v) s in
    let xc = spread near_reach narrow_width cosine_amount (cosine_width (sine_width v)) (near_reach + 1) _ _ _ p.x_ends k (cosine_reach near_reach (lit≤ tt)) (cosine_spread (cosine_width (sine_width v))) in
    let yc = spread near_reach narrow_width cosine_amount (cosine_width (sine_width v)) (near_reach + 1) _ _ _ p.y_ends k (cosine_reach near_reach (lit≤ tt)) (cosine_spread (cosine_width (sine_width v))) in
    let xs = spread near_reach narrow_width sine_amount (sine_width v) (near_reach / 10000 + 1) _ _ _ p.x_ends s (sine_reach near_reach) (sine_spread (sine_width v)) in
    let ys = spread near_reach narrow_width sine_amount (sine_width v) (near_reach / 10000 + 1) _ _ _ p.y_ends s (sine_reach near_reach) (sine_spread (sine_width v)) in
    let tx = c.sum_of_products.ensures.ends _ _ _ _ xc ys in
    let ty = c.difference_of_products.ensures.ends _ _ _ _ yc xs in
    record {
      x_ends = wider_ends _ (reach_after near_reach) _ (turned_width v) _ _ (reach_sum near_reach) (turned_spread v) tx;
      y_ends = wider_ends _ (reach_after near_reach) _ (turned_width v) _ _ (reach_sum near_reach) (turned_spread v) ty;
      z_ends = wider_ends near_reach (reach_after near_reach) narrow_width (turned_width v) _ _ (lit≤ tt) (omega arith) p.z_ends;
    }
