use Rattle.std.proofs.Common.{◌*◌, lit≤}
use Rattle.grid_model.specs.Angles.{unit}
use Rattle.gnss_model.specs.RecordBounds.{angle_bound}
use Rattle.broadcast_orbit.specs.OrbitSizes.{value_amount, true_amount, true_width, perigee_width}
use Rattle.broadcast_orbit.proofs.Chains.{field_ends, value_held, wider_directions, direction_amount, direction_spread}
use Rattle.broadcast_orbit.proofs.latitude.latitude_before.Goals as goal

pub joined-requires-clause-a_size : goal.joined-requires-clause-a_size
joined-requires-clause-a_size c = wider_directions true_amount _ _ _ _ (lit≤ tt) (lit≤ tt) c.requires

pub returns-clause-holds : goal.returns-clause-holds
returns-clause-holds c perigee d s cw sw p q o h x y i j =
    let v = value_held c.args.el.now.omega c.of_wide.result perigee c.of_wide.ensures.low c.of_wide.ensures.high o in
    c.joined.ensures.holds d s cw sw p q h (c.direction_of.ensures.holds perigee cw sw v x y) i j

pub returns-clause-amount : goal.returns-clause-amount
returns-clause-amount c =
    let f = field_ends angle_bound c.args.el.now.omega c.of_wide.result c.of_wide.ensures.low c.of_wide.ensures.high c.args.el.now.omega_within in
    let w = c.direction_of.ensures.ends angle_bound 1 f in
    direction_amount _ _ _ (c.joined.ensures.ends _ _ _ _ (direction_spread true_amount (2 * true_amount) value_amount perigee_width value_amount perigee_width 15000000000000033 (10 * unit) 15000000000000033 (10 * unit) _ _ c.requires w.cosine w.sine (lit≤ tt) (lit≤ tt) (lit≤ tt) (lit≤ tt)))

pub returns-clause-narrow : goal.returns-clause-narrow
returns-clause-narrow c a =
    let f = field_ends angle_bound c.args.el.now.omega c.of_wide.result c.of_wide.ensures.low c.of_wide.ensures.high c.args.el.now.omega_within in
    let w = c.direction_of.ensures.ends angle_bound 1 f in
    c.joined.ensures.ends _ _ _ _ (direction_spread true_amount true_width value_amount perigee_width value_amount perigee_width 15000000000000033 1105 15000000000000033 1105 _ _ a w.cosine w.sine (lit≤ tt) (lit≤ tt) (lit≤ tt) (lit≤ tt))
