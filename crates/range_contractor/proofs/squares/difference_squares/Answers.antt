use Rattle.std.proofs.Common.{◌≡◌, arith, to_z, of_z, w64, ap, ◌∙◌}
use Rattle.std.specs.Prelude.{ℤ, ◌-ℤ◌}
use Rattle.std.proofs.lemmas.Int.{ints}
use Rattle.grid_model.specs.Boxes.{span_side}
use Rattle.range_contractor.proofs.SquareLemmas.{difference_sizes, are_difference_squares, difference_squares_small}
use Rattle.range_contractor.proofs.squares.difference_squares.Goals as goal

pub sub-requires : goal.sub-requires
sub-requires g c =
    let I = g.I.Interval in
    let lo : to_z w64 (of_z w64 c.args.side.now.lo) ≡ c.args.side.now.lo = omega (arith, ints) in
    let hi : to_z w64 (of_z w64 c.args.side.now.hi) ≡ c.args.side.now.hi = omega (arith, ints) in
    let low = rw lo at c.of.ensures.low in
    let high = rw hi at c.of.ensures.high in
    let s = difference_sizes I.GRAIN (record { lo = I.low c.args.place; hi = I.high c.args.place }) (span_side c.args.side.now) _ _ g.met.I.Interval.grain_low g.met.I.Interval.grain_high
    c.requires.place_low c.requires.place_high c.requires.lo_size c.requires.hi_size
    (record { low_is = ap (λ (z : ℤ). I.low c.args.place -ℤ z) high; high_is = ap (λ (z : ℤ). I.high c.args.place -ℤ z) low }) in
    record {
      low_size = record { low = omega (arith, ints, s.0.low); high = omega (arith, ints, s.0.high) };
      high_size = record { low = omega (arith, ints, s.1.low); high = omega (arith, ints, s.1.high) };
    }

pub square-requires : goal.square-requires
square-requires g c =
    let I = g.I.Interval in
    let lo : to_z w64 (of_z w64 c.args.side.now.lo) ≡ c.args.side.now.lo = omega (arith, ints) in
    let hi : to_z w64 (of_z w64 c.args.side.now.hi) ≡ c.args.side.now.hi = omega (arith, ints) in
    let low = rw lo at c.of.ensures.low in
    let high = rw hi at c.of.ensures.high in
    let s = difference_sizes I.GRAIN (record { lo = I.low c.args.place; hi = I.high c.args.place }) (span_side c.args.side.now) (I.low c.sub.result) (I.high c.sub.result) g.met.I.Interval.grain_low g.met.I.Interval.grain_high
    c.requires.place_low c.requires.place_high c.requires.lo_size c.requires.hi_size
    (record { low_is = c.sub.ensures.low ∙ ap (λ (z : ℤ). I.low c.args.place -ℤ z) high; high_is = c.sub.ensures.high ∙ ap (λ (z : ℤ). I.high c.args.place -ℤ z) low }) in
    record {
      low_size = record { low = omega (arith, ints, s.0.low); high = omega (arith, ints, s.0.high) };
      high_size = record { low = omega (arith, ints, s.1.low); high = omega (arith, ints, s.1.high) };
    }

pub returns-clause-squares : goal.returns-clause-squares
returns-clause-squares g c =
    let I = g.I.Interval in
    let lo : to_z w64 (of_z w64 c.args.side.now.lo) ≡ c.args.side.now.lo = omega (arith, ints) in
    let hi : to_z w64 (of_z w64 c.args.side.now.hi) ≡ c.args.side.now.hi = omega (arith, ints) in
    let low = rw lo at c.of.ensures.low in
    let high = rw hi at c.of.ensures.high in
    are_difference_squares I.GRAIN (record { lo = I.low c.args.place; hi = I.high c.args.place }) (span_side c.args.side.now) (I.low c.sub.result) (I.high c.sub.result)
    (I.area_low c.square.result) (I.area_high c.square.result) g.met.I.Interval.grain_low g.met.I.Interval.grain_high (g.met.I.Interval.ordered c.args.place) (omega (arith, ints))
    c.requires.place_low c.requires.place_high c.requires.lo_size c.requires.hi_size
    (record { low_is = c.sub.ensures.low ∙ ap (λ (z : ℤ). I.low c.args.place -ℤ z) high; high_is = c.sub.ensures.high ∙ ap (λ (z : ℤ). I.high c.args.place -ℤ z) low })
    c.square.ensures.low c.square.ensures.high

pub returns-clause-small : goal.returns-clause-small
returns-clause-small g c =
    let I = g.I.Interval in
    let lo : to_z w64 (of_z w64 c.args.side.now.lo) ≡ c.args.side.now.lo = omega (arith, ints) in
    let hi : to_z w64 (of_z w64 c.args.side.now.hi) ≡ c.args.side.now.hi = omega (arith, ints) in
    let low = rw lo at c.of.ensures.low in
    let high = rw hi at c.of.ensures.high in
    let s = difference_sizes I.GRAIN (record { lo = I.low c.args.place; hi = I.high c.args.place }) (span_side c.args.side.now) (I.low c.sub.result) (I.high c.sub.result) g.met.I.Interval.grain_low g.met.I.Interval.grain_high
    c.requires.place_low c.requires.place_high c.requires.lo_size c.requires.hi_size
    (record { low_is = c.sub.ensures.low ∙ ap (λ (z : ℤ). I.low c.args.place -ℤ z) high; high_is = c.sub.ensures.high ∙ ap (λ (z : ℤ). I.high c.args.place -ℤ z) low }) in
    difference_squares_small (I.low c.sub.result) (I.high c.sub.result) (I.area_high c.square.result) s.0 s.1 c.square.ensures.high
