use Rattle.std.proofs.Common.{rules, FitsSigned, arith, refl}
use Rattle.std.specs.Int.{w64}
use Rattle.std.specs.Prelude.{◌+ℤ◌}
use Rattle.std.proofs.lemmas.Int.{ints, to_z-of_z}
use Rattle.sat_rows.proofs.bounds.delayed.Goals as goal

pub invariant_of-result : goal.invariant_of-result
invariant_of-result c =
    let r = c.requires in
    let fits : FitsSigned w64 c.args.end = c.ranges.end in
    let z_lo : FitsSigned w64 c.args.zenith.lo = search rules in
    let v_lo : FitsSigned w64 c.args.vertical.lo = search rules in
    let s_lo : FitsSigned w64 (c.args.end +ℤ c.args.zenith.lo) = omega (arith, ints, r.end_size.low, r.end_size.high, r.zenith_size.lo.low, r.zenith_size.lo.high) in
    let t_lo : FitsSigned w64 ((c.args.end +ℤ c.args.zenith.lo) +ℤ c.args.vertical.lo) = omega (arith, ints, r.end_size.low, r.end_size.high, r.zenith_size.lo.low, r.zenith_size.lo.high, r.vertical_size.lo.low, r.vertical_size.lo.high) in
    let z_hi : FitsSigned w64 c.args.zenith.hi = search rules in
    let v_hi : FitsSigned w64 c.args.vertical.hi = search rules in
    let s_hi : FitsSigned w64 (c.args.end +ℤ c.args.zenith.hi) = omega (arith, ints, r.end_size.low, r.end_size.high, r.zenith_size.hi.low, r.zenith_size.hi.high) in
    let t_hi : FitsSigned w64 ((c.args.end +ℤ c.args.zenith.hi) +ℤ c.args.vertical.hi) = omega (arith, ints, r.end_size.low, r.end_size.high, r.zenith_size.hi.low, r.zenith_size.hi.high, r.vertical_size.hi.low, r.vertical_size.hi.high) in
    let zenith = c.args.zenith.ordered in
    let vertical = c.args.vertical.ordered in
    record { ordered = simp to_z-of_z (omega (arith, ints, zenith, vertical)) }

pub returns-clause-low : goal.returns-clause-low
returns-clause-low c =
    let r = c.requires in
    let fits : FitsSigned w64 c.args.end = c.ranges.end in
    let z_lo : FitsSigned w64 c.args.zenith.lo = search rules in
    let v_lo : FitsSigned w64 c.args.vertical.lo = search rules in
    let s_lo : FitsSigned w64 (c.args.end +ℤ c.args.zenith.lo) = omega (arith, ints, r.end_size.low, r.end_size.high, r.zenith_size.lo.low, r.zenith_size.lo.high) in
    let t_lo : FitsSigned w64 ((c.args.end +ℤ c.args.zenith.lo) +ℤ c.args.vertical.lo) = omega (arith, ints, r.end_size.low, r.end_size.high, r.zenith_size.lo.low, r.zenith_size.lo.high, r.vertical_size.lo.low, r.vertical_size.lo.high) in
    simp to_z-of_z refl

pub returns-clause-high : goal.returns-clause-high
returns-clause-high c =
    let r = c.requires in
    let fits : FitsSigned w64 c.args.end = c.ranges.end in
    let z_hi : FitsSigned w64 c.args.zenith.hi = search rules in
    let v_hi : FitsSigned w64 c.args.vertical.hi = search rules in
    let s_hi : FitsSigned w64 (c.args.end +ℤ c.args.zenith.hi) = omega (arith, ints, r.end_size.low, r.end_size.high, r.zenith_size.hi.low, r.zenith_size.hi.high) in
    let t_hi : FitsSigned w64 ((c.args.end +ℤ c.args.zenith.hi) +ℤ c.args.vertical.hi) = omega (arith, ints, r.end_size.low, r.end_size.high, r.zenith_size.hi.low, r.zenith_size.hi.high, r.vertical_size.hi.low, r.vertical_size.hi.high) in
    simp to_z-of_z refl
