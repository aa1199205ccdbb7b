use Rattle.std.proofs.Common.{◌*◌, lit≤}
use Rattle.std.specs.Prelude.{ℤ, pos, ◌+ℤ◌, ◌-ℤ◌, ◌*ℤ◌}
use Rattle.grid_model.specs.Angles.{unit}
use Rattle.grid_model.proofs.EndsLemmas.{wider_ends}
use Rattle.grid_model.proofs.IntervalLemmas.{low_member, high_member}
use Rattle.fix_interval.specs.Factors.{Holds}
use Rattle.fix_interval.proofs.InsideLemmas.{Inside, held, inside_of, mixed_sum, mixed_difference}
use Rattle.fix_interval.proofs.ProductEnds.{spread_by, amount_of, spread}
use Rattle.broadcast_orbit.specs.OrbitSizes.{value_amount, plane_amount, plane_width, inclination_value_width, node_value_width, level_amount, level_width}
use Rattle.broadcast_orbit.proofs.space.turned_out.Goals as goal

pub difference_of_products-requires-clause-c_size : goal.difference_of_products-requires-clause-c_size
difference_of_products-requires-clause-c_size c = wider_ends level_amount _ _ _ _ _ (lit≤ tt) (lit≤ tt) (c.product-level.ensures.ends _ _ (spread_by plane_amount value_amount _ _ c.requires.y_size c.requires.tilt_size.cosine 174350448000041 (lit≤ tt)))

pub sum_of_products-requires-clause-c_size : goal.sum_of_products-requires-clause-c_size
sum_of_products-requires-clause-c_size c = wider_ends level_amount _ _ _ _ _ (lit≤ tt) (lit≤ tt) (c.product-level.ensures.ends _ _ (spread_by plane_amount value_amount _ _ c.requires.y_size c.requires.tilt_size.cosine 174350448000041 (lit≤ tt)))

pub returns-clause-x_holds : goal.returns-clause-x_holds
returns-clause-x_holds c x y ci si co so v p q t m n =
    let o = c.product-level.result.ordered in
    let level : Inside (y *ℤ ci) (pos unit) c.product-level.result.lo c.product-level.result.hi = inside_of (y *ℤ ci) (pos unit) _ _ (record { lt = tt }) (λ u. c.product-level.ensures.holds y ci u q t.cosine) in
    let at = λ (z : ℤ) (h : Holds c.product-level.result z). inside_of ((x *ℤ co) -ℤ (z *ℤ so)) (pos unit) c.difference_of_products.result.lo c.difference_of_products.result.hi (record { lt = tt }) (λ u. c.difference_of_products.ensures.holds x co z so u p m.cosine h m.sine) in
    held _ (pos (unit * unit)) _ _ v (record { lt = tt }) (mixed_difference (x *ℤ co) (y *ℤ ci) (pos unit) so (pos unit) _ _ _ _ (record { lt = tt }) level (at _ (low_member _ _ o)) (at _ (high_member _ _ o))) n

pub returns-clause-y_holds : goal.returns-clause-y_holds
returns-clause-y_holds c x y ci si co so v p q t m n =
    let o = c.product-level.result.ordered in
    let level : Inside (y *ℤ ci) (pos unit) c.product-level.result.lo c.product-level.result.hi = inside_of (y *ℤ ci) (pos unit) _ _ (record { lt = tt }) (λ u. c.product-level.ensures.holds y ci u q t.cosine) in
    let at = λ (z : ℤ) (h : Holds c.product-level.result z). inside_of ((x *ℤ so) +ℤ (z *ℤ co)) (pos unit) c.sum_of_products.result.lo c.sum_of_products.result.hi (record { lt = tt }) (λ u. c.sum_of_products.ensures.holds x so z co u p m.sine h m.cosine) in
    held _ (pos (unit * unit)) _ _ v (record { lt = tt }) (mixed_sum (x *ℤ so) (y *ℤ ci) (pos unit) co (pos unit) _ _ _ _ (record { lt = tt }) level (at _ (low_member _ _ o)) (at _ (high_member _ _ o))) n

pub returns-clause-x_amount : goal.returns-clause-x_amount
returns-clause-x_amount c =
    let l = amount_of _ _ _ _ (c.product-level.ensures.ends _ _ (spread_by plane_amount value_amount _ _ c.requires.y_size c.requires.tilt_size.cosine 174350448000041 (lit≤ tt))) in
    amount_of _ _ _ _ (c.difference_of_products.ensures.ends _ _ _ _ (spread_by plane_amount value_amount _ _ c.requires.x_size c.requires.node_size.cosine 174350448000041 (lit≤ tt)) (spread_by level_amount value_amount _ _ l c.requires.node_size.sine 174350448000044 (lit≤ tt)))

pub returns-clause-y_amount : goal.returns-clause-y_amount
returns-clause-y_amount c =
    let l = amount_of _ _ _ _ (c.product-level.ensures.ends _ _ (spread_by plane_amount value_amount _ _ c.requires.y_size c.requires.tilt_size.cosine 174350448000041 (lit≤ tt))) in
    amount_of _ _ _ _ (c.sum_of_products.ensures.ends _ _ _ _ (spread_by plane_amount value_amount _ _ c.requires.x_size c.requires.node_size.sine 174350448000041 (lit≤ tt)) (spread_by level_amount value_amount _ _ l c.requires.node_size.cosine 174350448000044 (lit≤ tt)))

pub returns-clause-z_amount : goal.returns-clause-z_amount
returns-clause-z_amount c = amount_of _ _ _ _ (wider_ends level_amount 348700896000089 _ 697401792000168 _ _ (lit≤ tt) (lit≤ tt) (c.product.ensures.ends _ _ (spread_by plane_amount value_amount _ _ c.requires.y_size c.requires.tilt_size.sine 174350448000041 (lit≤ tt))))

pub returns-clause-narrow : goal.returns-clause-narrow
returns-clause-narrow c p q t m =
    let l = c.product-level.ensures.ends _ _ (spread plane_amount plane_width value_amount inclination_value_width 174350448000041 213 _ _ q t.cosine (lit≤ tt) (lit≤ tt)) in (
      c.difference_of_products.ensures.ends _ _ _ _ (spread plane_amount plane_width value_amount node_value_width 174350448000041 212 _ _ p m.cosine (lit≤ tt) (lit≤ tt)) (spread level_amount level_width value_amount node_value_width 174350448000044 219 _ _ l m.sine (lit≤ tt) (lit≤ tt)),
      c.sum_of_products.ensures.ends _ _ _ _ (spread plane_amount plane_width value_amount node_value_width 174350448000041 212 _ _ p m.sine (lit≤ tt) (lit≤ tt)) (spread level_amount level_width value_amount node_value_width 174350448000044 219 _ _ l m.cosine (lit≤ tt) (lit≤ tt)),
      wider_ends level_amount 348700896000089 217 439 _ _ (lit≤ tt) (lit≤ tt) (c.product.ensures.ends _ _ (spread plane_amount plane_width value_amount inclination_value_width 174350448000041 213 _ _ q t.sine (lit≤ tt) (lit≤ tt))),
    )
