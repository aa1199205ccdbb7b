use Rattle.std.proofs.Common.{◌+◌, ◌*◌, ◌^◌, arith, refl, sym, lit≤}
use Rattle.std.specs.Prelude.{◌-ℤ◌}
use Rattle.std.proofs.lemmas.Int.{ints}
use Rattle.grid_model.specs.Boxes.{grid_box}
use Rattle.grid_model.specs.Ranges.{range_to}
use Rattle.grid_model.specs.Lengths.{longest_length}
use Rattle.grid_model.specs.Amounts.{square}
use Rattle.grid_model.specs.Squares.{least_end, greatest_end}
use Rattle.grid_model.proofs.EndsLemmas.{wider_ends}
use Rattle.fix_interval.proofs.ProductEnds.{amount_of}
use Rattle.grid_model.specs.Roots.{root}
use Rattle.grid_model.proofs.RootLemmas.{square-mono, root_is}
use Rattle.grid_model.proofs.SquareLemmas.{greatest_square_le}
use Rattle.grid_model.proofs.PointLemmas.{in_box}
use Rattle.gnss_model.specs.Layers.{layer_floor}
use Rattle.gnss_model.specs.Mapping.{layer_sine, slant_of}
use Rattle.elevation_mapping.specs.SineSizes.{up_amount, offset_amount, sine_amount}
use Rattle.elevation_mapping.proofs.Points.{ArePoints, AreOffsets, axis_held, same_number, place_ends, offsets_ends, up_ends, up_far, line_far}
use Rattle.elevation_mapping.proofs.SlantWidth.{mapped_spread, layer_sine_le, slant_at_least, slant_fits}
use Rattle.elevation_mapping.proofs.mapping.mapped.Goals as goal
use Rattle.grid_model.proofs.IntervalLemmas.{difference_by as offset_held}

pub elevation_sine-sine-requires-clause-up_far : goal.elevation_sine-sine-requires-clause-up_far
elevation_sine-sine-requires-clause-up_far c =
    let e = c.place_of-points.ensures in
    let p : ArePoints c.args.part.now c.place_of-points.result = record { x_low = e.x_low; x_high = e.x_high; y_low = e.y_low; y_high = e.y_high; z_low = e.z_low; z_high = e.z_high } in
    up_far c.args.part.now c.place_of-points.result (record { x = c.place_of-points.result.x; y = c.place_of-points.result.y; z = c.raised.result }) (2 * up_amount) p refl refl c.raised.ensures.amount c.raised.ensures.near c.requires.from_origin

pub elevation_sine-sine-requires-clause-line_far : goal.elevation_sine-sine-requires-clause-line_far
elevation_sine-sine-requires-clause-line_far c =
    let e = c.place_of-points.ensures in
    let f = c.offsets.ensures in
    let p : ArePoints c.args.part.now c.place_of-points.result = record { x_low = e.x_low; x_high = e.x_high; y_low = e.y_low; y_high = e.y_high; z_low = e.z_low; z_high = e.z_high } in
    let d : AreOffsets c.args.turned c.place_of-points.result c.offsets.result = record { x_low = f.x_low; x_high = f.x_high; y_low = f.y_low; y_high = f.y_high; z_low = f.z_low; z_high = f.z_high } in
    line_far (5 * 10 ^ 12) c.args.part.now c.args.turned c.place_of-points.result c.offsets.result p d c.requires.from_place

pub over_slants-requires-clause-low_size : goal.over_slants-requires-clause-low_size
over_slants-requires-clause-low_size c = let e = c.slants.ensures.low in omega (arith, ints, e, slant_at_least c.args.layer (square (layer_sine c.args.layer (least_end c.elevation_sine-sine.result.lo c.elevation_sine-sine.result.hi))))

pub over_slants-requires-clause-high_size : goal.over_slants-requires-clause-high_size
over_slants-requires-clause-high_size c =
    let e = c.slants.ensures.high in
    let a = c.elevation_sine-sine.ensures.amount in
    let t = greatest_end c.elevation_sine-sine.result.lo c.elevation_sine-sine.result.hi in
    let n = layer_floor c.args.layer + square (layer_sine c.args.layer t) in
    let g = greatest_square_le sine_amount c.elevation_sine-sine.result.lo c.elevation_sine-sine.result.hi a.low a.high in
    let b = square-mono (layer_sine c.args.layer t) t (layer_sine_le c.args.layer t) in
    let f = slant_fits c.args.layer n (root n) (root_is n) (omega (arith, g, b)) in
    omega (arith, ints, e, f)

pub elevation_sine-sine-requires-clause-up_size : goal.elevation_sine-sine-requires-clause-up_size
elevation_sine-sine-requires-clause-up_size c =
    let e = c.place_of-points.ensures in
    let p : ArePoints c.args.part.now c.place_of-points.result = record { x_low = e.x_low; x_high = e.x_high; y_low = e.y_low; y_high = e.y_high; z_low = e.z_low; z_high = e.z_high } in
    let q = place_ends c.args.part.now c.place_of-points.result p in
    record {
      x_ends = amount_of up_amount _ _ _ (wider_ends (10 ^ 13) up_amount _ _ _ _ (lit≤ tt) (same_number _) q.x_ends);
      y_ends = amount_of up_amount _ _ _ (wider_ends (10 ^ 13) up_amount _ _ _ _ (lit≤ tt) (same_number _) q.y_ends);
      z_ends = c.raised.ensures.amount;
    }

pub elevation_sine-sine-requires-clause-line_size : goal.elevation_sine-sine-requires-clause-line_size
elevation_sine-sine-requires-clause-line_size c =
    let e = c.place_of-points.ensures in
    let f = c.offsets.ensures in
    let p : ArePoints c.args.part.now c.place_of-points.result = record { x_low = e.x_low; x_high = e.x_high; y_low = e.y_low; y_high = e.y_high; z_low = e.z_low; z_high = e.z_high } in
    let d : AreOffsets c.args.turned c.place_of-points.result c.offsets.result = record { x_low = f.x_low; x_high = f.x_high; y_low = f.y_low; y_high = f.y_high; z_low = f.z_low; z_high = f.z_high } in
    let q = offsets_ends _ _ c.args.turned c.place_of-points.result c.offsets.result d c.requires.place (place_ends c.args.part.now c.place_of-points.result p) in
    record { x_ends = amount_of offset_amount _ _ _ q.x_ends; y_ends = amount_of offset_amount _ _ _ q.y_ends; z_ends = amount_of offset_amount _ _ _ q.z_ends }

pub returns-clause-width : goal.returns-clause-width
returns-clause-width c =
    let w = longest_length (grid_box c.args.part.now) in
    let e = c.place_of-points.ensures in
    let f = c.offsets.ensures in
    let p : ArePoints c.args.part.now c.place_of-points.result = record { x_low = e.x_low; x_high = e.x_high; y_low = e.y_low; y_high = e.y_high; z_low = e.z_low; z_high = e.z_high } in
    let d : AreOffsets c.args.turned c.place_of-points.result c.offsets.result = record { x_low = f.x_low; x_high = f.x_high; y_low = f.y_low; y_high = f.y_high; z_low = f.z_low; z_high = f.z_high } in
    let q = place_ends c.args.part.now c.place_of-points.result p in
    let u = up_ends w c.place_of-points.result (record { x = c.place_of-points.result.x; y = c.place_of-points.result.y; z = c.raised.result }) refl refl (c.raised.ensures.narrow w q.z_ends) q in
    let l = offsets_ends _ w c.args.turned c.place_of-points.result c.offsets.result d c.requires.place q in
    let n = c.elevation_sine-sine.ensures.narrow w c.requires.short u l in
    mapped_spread c.args.layer w _ _ _ _ _ _ c.elevation_sine-sine.ensures.amount n c.slants.ensures.low c.slants.ensures.high c.over_slants.ensures.tight

pub returns-clause-holds : goal.returns-clause-holds
unfolding range_to
returns-clause-holds c p x y z mp h k m =
    let e = c.place_of-points.ensures in
    let f = c.offsets.ensures in
    let i = in_box _ p h in
    let px = axis_held _ _ _ _ p.x e.x_low e.x_high i.x.0 i.x.1 in
    let py = axis_held _ _ _ _ p.y e.y_low e.y_high i.y.0 i.y.1 in
    let pz = axis_held _ _ _ _ p.z e.z_low e.z_high i.z.0 i.z.1 in
    let zu = c.raised.ensures.holds p.z m.raised_z pz m.raised_z_is in
    let dx = offset_held _ _ _ _ _ _ x p.x f.x_low f.x_high k.x_held px in
    let dy = offset_held _ _ _ _ _ _ y p.y f.y_low f.y_high k.y_held py in
    let dz = offset_held _ _ _ _ _ _ z p.z f.z_low f.z_high k.z_held pz in
    let v = m.up_length_is in
    let se = c.elevation_sine-sine.ensures.holds p.x p.y m.raised_z (x -ℤ p.x) (y -ℤ p.y) (z -ℤ p.z) m.up_x m.up_y m.up_z m.line_x m.line_y m.line_z m.sine (record { x_held = px; y_held = py; z_held = zu }) (record { x_held = dx; y_held = dy; z_held = dz }) (rw (sym v) m.up_x_is) (rw (sym v) m.up_y_is) (rw (sym v) m.up_z_is) m.line_x_is m.line_y_is m.line_z_is m.sine_is in
    c.over_slants.ensures.holds (slant_of c.args.layer m.sine) mp (c.slants.ensures.holds m.sine se) m.factor_is
