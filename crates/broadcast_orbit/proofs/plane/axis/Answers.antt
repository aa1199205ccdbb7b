use Rattle.std.proofs.Common.{◌^◌, lit≤}
use Rattle.gnss_model.specs.RecordBounds.{least_root_a, greatest_root_a}
use Rattle.grid_model.proofs.EndsLemmas.{wider_ends, product_ends}
use Rattle.grid_model.proofs.SpreadLemmas.{products_fit}
use Rattle.std.specs.Prelude.{pos}
use Rattle.broadcast_orbit.specs.OrbitSizes.{root_a_amount}
use Rattle.broadcast_orbit.proofs.Chains.{range_ends, value_held}
use Rattle.broadcast_orbit.proofs.plane.axis.Goals as goal

pub times_over-requires-clause-sizes : goal.times_over-requires-clause-sizes
times_over-requires-clause-sizes c =
    let e = range_ends least_root_a greatest_root_a c.args.el.now.root_a c.of_wide-root_a.result c.of_wide-root_a.ensures.low c.of_wide-root_a.ensures.high c.args.el.now.root_a_within in
    products_fit _ _ _ _ _ _ _ _ _ (lit≤ tt) e e

pub returns-clause-holds : goal.returns-clause-holds
returns-clause-holds c s a p n =
    let h = value_held c.args.el.now.root_a c.of_wide-root_a.result s c.of_wide-root_a.ensures.low c.of_wide-root_a.ensures.high p in
    c.times_over.ensures.holds s s a h h n

pub returns-clause-ends : goal.returns-clause-ends
returns-clause-ends c =
    let e = wider_ends greatest_root_a root_a_amount 1 1 _ _ (lit≤ tt) (lit≤ tt) (range_ends least_root_a greatest_root_a c.args.el.now.root_a c.of_wide-root_a.result c.of_wide-root_a.ensures.low c.of_wide-root_a.ensures.high c.args.el.now.root_a_within) in
    product_ends root_a_amount 1 root_a_amount 1 43560000000000 1 _ _ _ _ (pos (10 ^ 18)) _ _ e e (record { lt = tt }) (record { le = tt }) (record { le = tt }) c.times_over.result.ordered c.times_over.ensures.tight
