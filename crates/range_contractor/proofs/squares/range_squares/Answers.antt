use Rattle.std.proofs.Common.{◌≡◌, arith, to_z, of_z, w64}
use Rattle.std.specs.Prelude.{pos, ◌+ℤ◌}
use Rattle.std.proofs.lemmas.Int.{ints}
use Rattle.range_contractor.proofs.SquareLemmas.{are_range_squares, range_squares_small}
use Rattle.range_contractor.proofs.squares.range_squares.Goals as goal

pub returns-clause-squares : goal.returns-clause-squares
returns-clause-squares g c =
    let I = g.I.Interval in
    let e : to_z w64 (of_z w64 c.args.wanted.now.lo) ≡ c.args.wanted.now.lo = omega (arith, ints) in
    let m : to_z w64 (of_z w64 c.args.wanted.now.hi) ≡ c.args.wanted.now.hi = omega (arith, ints) in
    let f : to_z w64 (of_z w64 (c.args.wanted.now.hi +ℤ pos 1)) ≡ c.args.wanted.now.hi +ℤ pos 1 = omega (arith, ints) in
    are_range_squares I.GRAIN c.args.wanted.now.lo c.args.wanted.now.hi (I.low c.of.result) (I.high c.of.result) (I.area_low c.square.result) (I.area_high c.square.result)
    g.met.I.Interval.grain_low (omega (arith, ints)) (omega (arith, ints)) (rw e at c.of.ensures.low) (rw (m, f) at c.of.ensures.high) c.square.ensures.low c.square.ensures.high

pub returns-clause-small : goal.returns-clause-small
returns-clause-small g c =
    let I = g.I.Interval in
    let e : to_z w64 (of_z w64 c.args.wanted.now.lo) ≡ c.args.wanted.now.lo = omega (arith, ints) in
    let m : to_z w64 (of_z w64 c.args.wanted.now.hi) ≡ c.args.wanted.now.hi = omega (arith, ints) in
    let f : to_z w64 (of_z w64 (c.args.wanted.now.hi +ℤ pos 1)) ≡ c.args.wanted.now.hi +ℤ pos 1 = omega (arith, ints) in
    range_squares_small I.GRAIN c.args.wanted.now.lo c.args.wanted.now.hi (I.low c.of.result) (I.high c.of.result) (I.area_high c.square.result)
    g.met.I.Interval.grain_low g.met.I.Interval.grain_high (omega (arith, ints)) (omega (arith, ints)) (omega (arith, ints)) (rw e at c.of.ensures.low) (rw (m, f) at c.of.ensures.high) c.square.ensures.high
