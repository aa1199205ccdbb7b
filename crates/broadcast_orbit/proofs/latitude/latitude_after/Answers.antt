use Rattle.std.proofs.Common.{◌*◌, ◌+◌, lit≤}
use Rattle.grid_model.specs.Angles.{unit}
use Rattle.grid_model.proofs.EndsLemmas.{wider_ends}
use Rattle.broadcast_orbit.specs.OrbitSizes.{value_amount, phi_amount, phi_width, angle_swing_amount, angle_swing_width, swing_value_width, swing_sine_amount}
use Rattle.broadcast_orbit.proofs.Chains.{wider_directions, direction_amount, direction_spread}
use Rattle.broadcast_orbit.proofs.latitude.latitude_after.Goals as goal

pub joined-requires-clause-a_size : goal.joined-requires-clause-a_size
joined-requires-clause-a_size c = wider_directions phi_amount _ _ _ _ (lit≤ tt) (lit≤ tt) c.requires.phi_size

pub returns-clause-holds : goal.returns-clause-holds
returns-clause-holds c d s du cd sd p q h v x y i j = c.joined.ensures.holds d s cd sd p q h (c.direction_of.ensures.holds du cd sd v x y) i j

pub returns-clause-amount : goal.returns-clause-amount
returns-clause-amount c =
    let w = c.direction_of.ensures.ends angle_swing_amount (2 * angle_swing_amount) c.requires.correction_size in
    let s = c.direction_of.ensures.small angle_swing_amount (2 * angle_swing_amount) c.requires.correction_size (lit≤ tt) in
    direction_amount _ _ _ (c.joined.ensures.ends _ _ _ _ (direction_spread phi_amount (2 * phi_amount) value_amount (2 * angle_swing_amount + 16) swing_sine_amount (2 * angle_swing_amount + 16) 30000000000000095 (20 * unit) 3240000000000131 (20 * unit) _ _ c.requires.phi_size w.cosine s (lit≤ tt) (lit≤ tt) (lit≤ tt) (lit≤ tt)))

pub returns-clause-narrow : goal.returns-clause-narrow
returns-clause-narrow c a b =
    let w = c.direction_of.ensures.ends angle_swing_amount angle_swing_width b in
    let s = wider_ends _ swing_sine_amount _ swing_value_width _ _ (lit≤ tt) (lit≤ tt) (c.direction_of.ensures.small angle_swing_amount angle_swing_width b (lit≤ tt)) in
    c.joined.ensures.ends _ _ _ _ (direction_spread phi_amount phi_width value_amount swing_value_width swing_sine_amount swing_value_width 30000000000000095 2561 3240000000000131 582 _ _ a w.cosine s (lit≤ tt) (lit≤ tt) (lit≤ tt) (lit≤ tt))
