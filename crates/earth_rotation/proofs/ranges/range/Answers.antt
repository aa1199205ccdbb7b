use Rattle.std.proofs.Common.{◌+◌, ◌*◌, arith, lit≤}
use Rattle.std.specs.Prelude.{pos, ◌-ℤ◌}
use Rattle.grid_model.specs.Boxes.{grid_box}
use Rattle.grid_model.specs.Ranges.{range_to}
use Rattle.grid_model.specs.Lengths.{longest_length}
use Rattle.grid_model.proofs.EndsLemmas.{wider_ends}
use Rattle.grid_model.proofs.PointLemmas.{in_box}
use Rattle.grid_model.proofs.RootLemmas.{root_is}
use Rattle.grid_model.proofs.SquareLemmas.{root_between, squares_fit}
use Rattle.fix_interval.proofs.ProductEnds.{amount_of}
use Rattle.earth_rotation.proofs.Offsets.{offset_amount, offset_fits, offset_ends, offset_held, range_ends}
use Rattle.earth_rotation.proofs.ranges.range.Goals as goal

pub squared_distance-squares-requires-clause-x_low : goal.squared_distance-squares-requires-clause-x_low
squared_distance-squares-requires-clause-x_low c =
    let b = c.args.part.now in
    let p = c.place_of-points.ensures in
    (offset_fits _ _ _ (offset_ends _ _ _ _ _ _ _ _ _ c.requires.x_ends p.x_low p.x_high b.x_ordered b.lo_within.0 b.hi_within.0 c.offsets-x.ensures.low c.offsets-x.ensures.high)).low

pub squared_distance-squares-requires-clause-x_high : goal.squared_distance-squares-requires-clause-x_high
squared_distance-squares-requires-clause-x_high c =
    let b = c.args.part.now in
    let p = c.place_of-points.ensures in
    (offset_fits _ _ _ (offset_ends _ _ _ _ _ _ _ _ _ c.requires.x_ends p.x_low p.x_high b.x_ordered b.lo_within.0 b.hi_within.0 c.offsets-x.ensures.low c.offsets-x.ensures.high)).high

pub squared_distance-squares-requires-clause-y_low : goal.squared_distance-squares-requires-clause-y_low
squared_distance-squares-requires-clause-y_low c =
    let b = c.args.part.now in
    let p = c.place_of-points.ensures in
    (offset_fits _ _ _ (offset_ends _ _ _ _ _ _ _ _ _ c.requires.y_ends p.y_low p.y_high b.y_ordered b.lo_within.1 b.hi_within.1 c.offsets-y.ensures.low c.offsets-y.ensures.high)).low

pub squared_distance-squares-requires-clause-y_high : goal.squared_distance-squares-requires-clause-y_high
squared_distance-squares-requires-clause-y_high c =
    let b = c.args.part.now in
    let p = c.place_of-points.ensures in
    (offset_fits _ _ _ (offset_ends _ _ _ _ _ _ _ _ _ c.requires.y_ends p.y_low p.y_high b.y_ordered b.lo_within.1 b.hi_within.1 c.offsets-y.ensures.low c.offsets-y.ensures.high)).high

pub squared_distance-squares-requires-clause-z_low : goal.squared_distance-squares-requires-clause-z_low
squared_distance-squares-requires-clause-z_low c =
    let b = c.args.part.now in
    let p = c.place_of-points.ensures in
    (offset_fits _ _ _ (offset_ends _ _ _ _ _ _ _ _ _ c.requires.z_ends p.z_low p.z_high b.z_ordered b.lo_within.2 b.hi_within.2 c.offsets-z.ensures.low c.offsets-z.ensures.high)).low

pub squared_distance-squares-requires-clause-z_high : goal.squared_distance-squares-requires-clause-z_high
squared_distance-squares-requires-clause-z_high c =
    let b = c.args.part.now in
    let p = c.place_of-points.ensures in
    (offset_fits _ _ _ (offset_ends _ _ _ _ _ _ _ _ _ c.requires.z_ends p.z_low p.z_high b.z_ordered b.lo_within.2 b.hi_within.2 c.offsets-z.ensures.low c.offsets-z.ensures.high)).high

pub squared_distance-squares-requires-clause-sum_size : goal.squared_distance-squares-requires-clause-sum_size
squared_distance-squares-requires-clause-sum_size c =
    let b = c.args.part.now in
    let p = c.place_of-points.ensures in
    let x = offset_ends _ _ _ _ _ _ _ _ _ c.requires.x_ends p.x_low p.x_high b.x_ordered b.lo_within.0 b.hi_within.0 c.offsets-x.ensures.low c.offsets-x.ensures.high in
    let y = offset_ends _ _ _ _ _ _ _ _ _ c.requires.y_ends p.y_low p.y_high b.y_ordered b.lo_within.1 b.hi_within.1 c.offsets-y.ensures.low c.offsets-y.ensures.high in
    let z = offset_ends _ _ _ _ _ _ _ _ _ c.requires.z_ends p.z_low p.z_high b.z_ordered b.lo_within.2 b.hi_within.2 c.offsets-z.ensures.low c.offsets-z.ensures.high in
    omega (arith, squares_fit offset_amount _ _ _ _ _ _ x.low x.high y.low y.high z.low z.high)

pub returns-clause-holds : goal.returns-clause-holds
unfolding range_to
returns-clause-holds c p x y z h k =
    let i = in_box _ p h in
    let q = c.place_of-points.ensures in
    let dx = offset_held _ _ _ _ _ _ _ _ x p.x q.x_low q.x_high c.offsets-x.ensures.low c.offsets-x.ensures.high k.x_held i.x.0 i.x.1 in
    let dy = offset_held _ _ _ _ _ _ _ _ y p.y q.y_low q.y_high c.offsets-y.ensures.low c.offsets-y.ensures.high k.y_held i.y.0 i.y.1 in
    let dz = offset_held _ _ _ _ _ _ _ _ z p.z q.z_low q.z_high c.offsets-z.ensures.low c.offsets-z.ensures.high k.z_held i.z.0 i.z.1 in
    let s = c.squared_distance-squares.ensures in
    let e = c.root.ensures.low in
    let f = c.root.ensures.high in
    rw (e, f) (root_between (pos 1) _ _ _ _ (record { le = tt }) (s.from (x -ℤ p.x) (y -ℤ p.y) (z -ℤ p.z) dx dy dz) (s.to (x -ℤ p.x) (y -ℤ p.y) (z -ℤ p.z) dx dy dz) (root_is _))

pub returns-clause-amount : goal.returns-clause-amount
returns-clause-amount c =
    let b = c.args.part.now in
    let p = c.place_of-points.ensures in
    let x = offset_ends _ _ _ _ _ _ _ _ _ c.requires.x_ends p.x_low p.x_high b.x_ordered b.lo_within.0 b.hi_within.0 c.offsets-x.ensures.low c.offsets-x.ensures.high in
    let y = offset_ends _ _ _ _ _ _ _ _ _ c.requires.y_ends p.y_low p.y_high b.y_ordered b.lo_within.1 b.hi_within.1 c.offsets-y.ensures.low c.offsets-y.ensures.high in
    let z = offset_ends _ _ _ _ _ _ _ _ _ c.requires.z_ends p.z_low p.z_high b.z_ordered b.lo_within.2 b.hi_within.2 c.offsets-z.ensures.low c.offsets-z.ensures.high in
    let s = c.squared_distance-squares.ensures in
    amount_of _ _ _ _ (range_ends (2 * offset_amount) _ _ _ _ _ _ _ _ _ _ (amount_of _ _ _ _ x) (amount_of _ _ _ _ y) (amount_of _ _ _ _ z) s.low s.high c.root.ensures.low c.root.ensures.high)

pub returns-clause-narrow : goal.returns-clause-narrow
returns-clause-narrow c w e =
    let b = c.args.part.now in
    let p = c.place_of-points.ensures in
    let x = offset_ends _ _ _ _ _ _ _ _ _ e.x_ends p.x_low p.x_high b.x_ordered b.lo_within.0 b.hi_within.0 c.offsets-x.ensures.low c.offsets-x.ensures.high in
    let y = offset_ends _ _ _ _ _ _ _ _ _ e.y_ends p.y_low p.y_high b.y_ordered b.lo_within.1 b.hi_within.1 c.offsets-y.ensures.low c.offsets-y.ensures.high in
    let z = offset_ends _ _ _ _ _ _ _ _ _ e.z_ends p.z_low p.z_high b.z_ordered b.lo_within.2 b.hi_within.2 c.offsets-z.ensures.low c.offsets-z.ensures.high in
    let s = c.squared_distance-squares.ensures in
    let d = longest_length (grid_box c.args.part.now) + w in
    range_ends d _ _ _ _ _ _ _ _ _ _ (wider_ends _ _ _ d _ _ (lit≤ tt) (omega arith) x) (wider_ends _ _ _ d _ _ (lit≤ tt) (omega arith) y) (wider_ends _ _ _ d _ _ (lit≤ tt) (omega arith) z) s.low s.high c.root.ensures.low c.root.ensures.high
