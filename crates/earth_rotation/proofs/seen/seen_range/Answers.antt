use Rattle.std.proofs.Common.{arith, lit≤}
use Rattle.grid_model.specs.Boxes.{grid_box}
use Rattle.grid_model.specs.Ranges.{range_to}
use Rattle.earth_rotation.specs.TurnSizes.{turn_reach, reach_after, near_reach, narrow_width}
use Rattle.earth_rotation.specs.RoundSizes.{turned_reach, range_width, turned_width}
use Rattle.earth_rotation.proofs.seen.seen_range.Goals as goal
use Rattle.fix_interval.proofs.PlaceLemmas.{wider_place}

pub range-requires : goal.range-requires
range-requires c = wider_place turn_reach turned_reach _ _ _ (lit≤ tt) (lit≤ tt) c.requires

pub range-requires-2 : goal.range-requires-2
range-requires-2 c = wider_place (reach_after turn_reach) turned_reach _ _ _ (lit≤ tt) (lit≤ tt) (c.turned_over-first.ensures.sizes turn_reach (lit≤ tt) c.requires)

pub range-requires-3 : goal.range-requires-3
range-requires-3 c = wider_place (reach_after turn_reach) turned_reach _ _ _ (lit≤ tt) (lit≤ tt) (c.turned_over-second.ensures.sizes turn_reach (lit≤ tt) c.requires)

pub returns-clause-holds : goal.returns-clause-holds
returns-clause-holds c p x y z tx ty r h k t =
    let near = c.range.ensures.holds p x y z h k in
    let first = c.turned_over-first.ensures.holds (range_to x y z p) x y z t.first_x t.first_y near k t.first_is in
    let far = c.range-2.ensures.holds p t.first_x t.first_y z h first in
    let second = c.turned_over-second.ensures.holds (range_to t.first_x t.first_y z p) x y z tx ty far k t.second_is in
    rw t.range_is (c.range-3.ensures.holds p tx ty z h second)

pub returns-clause-narrow : goal.returns-clause-narrow
returns-clause-narrow c k =
    let part = grid_box c.args.part.now in
    let w = turned_width (range_width part narrow_width) in
    let v = turned_width (range_width part w) in
    let near = c.range.ensures.narrow narrow_width (wider_place near_reach turned_reach narrow_width narrow_width _ (lit≤ tt) (lit≤ tt) k) in
    let first = c.turned_over-first.ensures.narrow (range_width part narrow_width) k near in
    let far = c.range-2.ensures.narrow w (wider_place (reach_after near_reach) turned_reach w w _ (lit≤ tt) (omega arith) first) in
    let second = c.turned_over-second.ensures.narrow (range_width part w) k far in
    c.range-3.ensures.narrow v (wider_place (reach_after near_reach) turned_reach v v _ (lit≤ tt) (omega arith) second)
