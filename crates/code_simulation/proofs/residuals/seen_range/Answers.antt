use Rattle.std.proofs.Common.{◌*◌, ◌≤◌, ℕ, lit≤, subst, sym}
use Rattle.std.specs.Prelude.{pos}
use Rattle.fix_interval.specs.Factors.{Holds}
use Rattle.earth_rotation.specs.RoundSizes.{turned_reach}
use Rattle.grid_model.specs.Boxes.{grid_box}
use Rattle.code_simulation.proofs.EndLemmas.{far_range}
use Rattle.broadcast_orbit.proofs.TurnKeeps.{turned_distance}
use Rattle.code_simulation.specs.SearchSizes.{farthest_range}
use Rattle.code_simulation.proofs.ResidualLemmas.{from_point, point_range}
use Rattle.code_simulation.proofs.residuals.seen_range.Goals as goal
use Rattle.fix_interval.proofs.PlaceLemmas.{wider_place}

pub range-requires : goal.range-requires
range-requires c =
    wider_place turned_reach turned_reach 2000 (2 * turned_reach) c.turned.result (lit≤ tt) (lit≤ tt)
    (from_point (grid_box c.point-part.result) c.turned.result c.point-part.ensures.small (c.turned.ensures.narrow c.sent_place.ensures.ends))

pub returns-clause-holds : goal.returns-clause-holds
returns-clause-holds c n time x y z tx ty r motion at orbit turn =
    let sent = c.sent_place.ensures.holds n time x y z motion at orbit in
    let seen = c.turned.ensures.holds c.args.at.now x y z tx ty r c.point-part.ensures.holds sent turn in
    subst (λ (k : ℕ). Holds c.range.result (pos k)) (sym turn.range_is) (c.range.ensures.holds c.args.at.now tx ty z c.point-part.ensures.holds seen)

pub returns-clause-ends : goal.returns-clause-ends
returns-clause-ends c =
    point_range (grid_box c.point-part.result) c.range.result c.point-part.ensures.small
    (c.range.ensures.narrow 2000 (from_point (grid_box c.point-part.result) c.turned.result c.point-part.ensures.small (c.turned.ensures.narrow c.sent_place.ensures.ends)))

pub returns-clause-far : goal.returns-clause-far
returns-clause-far c = λ near n time x y z tx ty r motion at orbit turn.
    let sent = c.sent_place.ensures.holds n time x y z motion at orbit in
    let distance = c.sent_place.ensures.distance x y z sent in
    subst (λ (k : ℕ). k ≤ farthest_range) (sym turn.range_is)
    (far_range tx ty z c.args.at.now (turned_distance r c.args.at.now x y z tx ty distance turn) near)
