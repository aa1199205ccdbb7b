use Rattle.std.proofs.Common.{arith}
use Rattle.std.specs.Prelude.{pos, ◌+ℤ◌, ◌*ℤ◌, ◌<ℤ◌}
use Rattle.std.proofs.lemmas.Int.{ints}
use Rattle.grid_model.specs.Roots.{root}
use Rattle.grid_model.specs.Squares.{sum_of_squares}
use Rattle.grid_model.proofs.IntervalLemmas.{low_member}
use Rattle.elevation_mapping.specs.Places.{least_sum}
use Rattle.elevation_mapping.specs.SineSizes.{least_up, least_range}
use Rattle.elevation_mapping.proofs.Lengths.{root_at_least}
use Rattle.elevation_mapping.proofs.ElevationEnds.{height_ends, sine_ends, padded_ends}
use Rattle.elevation_mapping.proofs.ElevationHeld.{elevation_held}
use Rattle.elevation_mapping.proofs.ElevationWidth.{elevation_width}
use Rattle.elevation_mapping.proofs.elevation.elevation_sine.Goals as goal

pub over-height-requires-clause-positive : goal.over-height-requires-clause-positive
over-height-requires-clause-positive c = omega (arith, ints, c.length_of.ensures.low, root_at_least least_up _ c.requires.up_far)

pub over-requires-clause-positive : goal.over-requires-clause-positive
over-requires-clause-positive c = omega (arith, ints, c.length_of-2.ensures.low, root_at_least least_range _ c.requires.line_far)

pub over-requires-clause-low_size : goal.over-requires-clause-low_size
over-requires-clause-low_size c =
    let l = c.length_of.ensures in
    let h = height_ends c.args.up _ _ _ _ _ _ c.requires.up_size c.requires.up_far l.low l.high c.inner_product.ensures.amount c.over-height.result.ordered c.over-height.ensures.tight in
    record { low = omega (arith, ints, h.low); high = omega (arith, ints, h.low) }

pub over-requires-clause-high_size : goal.over-requires-clause-high_size
over-requires-clause-high_size c =
    let l = c.length_of.ensures in
    let h = height_ends c.args.up _ _ _ _ _ _ c.requires.up_size c.requires.up_far l.low l.high c.inner_product.ensures.amount c.over-height.result.ordered c.over-height.ensures.tight in
    record { low = omega (arith, ints, h.high); high = omega (arith, ints, h.high) }

pub plus-requires-clause-low_size : goal.plus-requires-clause-low_size
plus-requires-clause-low_size c =
    let l = c.length_of.ensures in
    let k = c.length_of-2.ensures in
    let h = height_ends c.args.up _ _ _ _ _ _ c.requires.up_size c.requires.up_far l.low l.high c.inner_product.ensures.amount c.over-height.result.ordered c.over-height.ensures.tight in
    let s = sine_ends c.args.line _ _ _ _ _ _ c.requires.line_size c.requires.line_far k.low k.high h c.over.result.ordered c.over.ensures.tight in
    record { low = omega (arith, ints, s.low); high = omega (arith, ints, s.low) }

pub plus-requires-clause-high_size : goal.plus-requires-clause-high_size
plus-requires-clause-high_size c =
    let l = c.length_of.ensures in
    let k = c.length_of-2.ensures in
    let h = height_ends c.args.up _ _ _ _ _ _ c.requires.up_size c.requires.up_far l.low l.high c.inner_product.ensures.amount c.over-height.result.ordered c.over-height.ensures.tight in
    let s = sine_ends c.args.line _ _ _ _ _ _ c.requires.line_size c.requires.line_far k.low k.high h c.over.result.ordered c.over.ensures.tight in
    record { low = omega (arith, ints, s.high); high = omega (arith, ints, s.high) }

pub returns-clause-amount : goal.returns-clause-amount
returns-clause-amount c =
    let l = c.length_of.ensures in
    let k = c.length_of-2.ensures in
    let h = height_ends c.args.up _ _ _ _ _ _ c.requires.up_size c.requires.up_far l.low l.high c.inner_product.ensures.amount c.over-height.result.ordered c.over-height.ensures.tight in
    let s = sine_ends c.args.line _ _ _ _ _ _ c.requires.line_size c.requires.line_far k.low k.high h c.over.result.ordered c.over.ensures.tight in
    padded_ends _ _ _ _ c.plus.ensures.low c.plus.ensures.high s

pub returns-clause-holds : goal.returns-clause-holds
returns-clause-holds c x y z a b d ux uy uz ex ey ez s hu hl iux iuy iuz iex iey iez i =
    let v = root (sum_of_squares x y z) in
    let r = root (sum_of_squares a b d) in
    let hv = c.length_of.ensures.holds x y z hu in
    let hr = c.length_of-2.ensures.holds a b d hl in
    let n = c.inner_product.ensures.holds x y z a b d hu hl in
    let lv = c.length_of.ensures.low in
    let lr = c.length_of-2.ensures.low in
    let pv = root_at_least least_up _ c.requires.up_far in
    let pr = root_at_least least_range _ c.requires.line_far in
    let ov : pos 0 <ℤ pos v = omega (arith, ints, hv.from, lv, pv) in
    let o : pos 0 <ℤ pos r = omega (arith, ints, hr.from, lr, pr) in
    let ord = c.over-height.result.ordered in
    elevation_held x y z a b d ux uy uz ex ey ez s _ _ _ _ _ _ ov o iux iuy iuz iex iey iez i c.plus.ensures.low c.plus.ensures.high
    (λ q j. c.over-height.ensures.holds (((x *ℤ a) +ℤ (y *ℤ b)) +ℤ (z *ℤ d)) (pos v) q n hv j) ord
    (λ h q m j. c.over.ensures.holds h (pos r) q m hr j)

pub returns-clause-narrow : goal.returns-clause-narrow
returns-clause-narrow c d k eu el =
    let lv = c.length_of.ensures in
    let lr = c.length_of-2.ensures in
    let rv = c.length_of-2.ensures.low in
    let r = root (least_sum c.args.line) in
    let hr = low_member _ _ c.length_of-2.result.ordered in
    let pr = root_at_least least_range _ c.requires.line_far in
    let o : pos 0 <ℤ c.length_of-2.result.lo = omega (arith, ints, rv, pr) in
    elevation_width d c.args.up c.args.line c.inner_product.result _ _ _ _ _ _ _ _ _ _ k eu el c.requires.up_far c.requires.line_far lv.low lv.high lr.low lr.high c.inner_product.ensures.narrow c.over-height.result.ordered c.over-height.ensures.tight c.over.result.ordered c.over.ensures.tight
    (λ h q m j. c.over.ensures.holds h c.length_of-2.result.lo q m hr j) o c.plus.ensures.low c.plus.ensures.high
