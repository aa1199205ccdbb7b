use Rattle.earth_rotation.specs.TurnSizes.{near_reach, reach_after}
use Rattle.grid_model.specs.Boxes.{grid_box}
use Rattle.sat_rows.proofs.DelayLemmas.{place_is_far}
use Rattle.sat_rows.proofs.places.seen_place.Goals as goal

pub returns-clause-far : goal.returns-clause-far
returns-clause-far c =
    place_is_far (reach_after near_reach) (grid_box c.args.part.now) c.args.sent c.turned.result c.requires.distance c.requires.part
    (c.turned.ensures.narrow c.requires.ends) c.turned.ensures.holds
