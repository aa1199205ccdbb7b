use Rattle.std.proofs.Common.{◌≤◌, arith}
use Rattle.grid_model.proofs.RoundingLemmas.{grain_floor_one, grain_ceil_one}
use Rattle.grid_model.specs.Squares.{least_end, greatest_end}
use Rattle.grid_model.proofs.RootLemmas.{square-mono}
use Rattle.grid_model.proofs.SquareLemmas.{least_le_greatest_end, greatest_square_le}
use Rattle.gnss_model.specs.Mapping.{layer_sine}
use Rattle.elevation_mapping.specs.SineSizes.{sine_amount}
use Rattle.elevation_mapping.proofs.SlantWidth.{layer_sine_mono, slant_held, slant_room}
use Rattle.elevation_mapping.proofs.slants.slants.Goals as goal

pub overflow_add-floor-2 : goal.overflow_add-floor-2
overflow_add-floor-2 c =
    let e = c.greatest_amount.ensures in
    let less = rw e at c.layer_sine-greatest.ensures.most in
    omega (arith, slant_room c.floor_of-floor.result c.layer_sine-greatest.result (greatest_end c.args.sine.lo c.args.sine.hi) c.floor_of-floor.ensures.most less (greatest_square_le sine_amount c.args.sine.lo c.args.sine.hi c.requires.low c.requires.high))

pub invariant_of-root : goal.invariant_of-root
invariant_of-root c =
    let e = c.least_amount.ensures in
    let f = c.greatest_amount.ensures in
    let low = c.layer_sine-least.ensures.value in
    let high = c.layer_sine-greatest.ensures.value in
    let l = layer_sine c.args.layer (least_end c.args.sine.lo c.args.sine.hi) in
    let g = layer_sine c.args.layer (greatest_end c.args.sine.lo c.args.sine.hi) in
    let order : l ≤ g = layer_sine_mono c.args.layer (least_end c.args.sine.lo c.args.sine.hi) (greatest_end c.args.sine.lo c.args.sine.hi) (least_le_greatest_end c.args.sine.lo c.args.sine.hi c.args.sine.ordered) in
    record { ordered = rw (low, high, e, f) (omega (arith, square-mono l g order)) }

pub returns-clause-low : goal.returns-clause-low
returns-clause-low c =
    let e = c.least_amount.ensures in
    let b = c.layer_sine-least.ensures.value in
    let n = c.floor_of-floor.ensures.value in
    let f = c.root.ensures.low in
    rw (f, n, b, e) (grain_floor_one _)

pub returns-clause-high : goal.returns-clause-high
returns-clause-high c =
    let e = c.greatest_amount.ensures in
    let b = c.layer_sine-greatest.ensures.value in
    let n = c.floor_of-floor.ensures.value in
    let f = c.root.ensures.high in
    rw (f, n, b, e) (grain_ceil_one _)

pub returns-clause-holds : goal.returns-clause-holds
returns-clause-holds c s h = slant_held c.args.layer _ _ _ _ s (returns-clause-low c) (returns-clause-high c) h
