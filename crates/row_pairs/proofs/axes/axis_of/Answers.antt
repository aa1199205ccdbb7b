use Rattle.std.proofs.Common.{arith, rules, FitsSigned, w64}
use Rattle.std.proofs.lemmas.Int.{ints, to_z-of_z}
use Rattle.row_pairs.proofs.axes.axis_of.Goals as goal

pub returns-clause-away : goal.returns-clause-away
returns-clause-away c =
    let h : FitsSigned w64 c.args.lo = c.ranges.lo in
    let i : FitsSigned w64 c.args.hi = c.ranges.hi in
    let r : FitsSigned w64 c.away_of.result = search rules in
    simp to_z-of_z (simp to_z-of_z at c.away_of.ensures.value)

pub returns-clause-place : goal.returns-clause-place
returns-clause-place c =
    let f : FitsSigned w64 c.args.place.now.lo = search rules in
    let g : FitsSigned w64 c.args.place.now.hi = search rules in
    simp to_z-of_z at c.half_of.ensures.value

pub returns-clause-side : goal.returns-clause-side
returns-clause-side c =
    let h : FitsSigned w64 c.args.lo = c.ranges.lo in
    let i : FitsSigned w64 c.args.hi = c.ranges.hi in
    simp to_z-of_z at c.half_of-2.ensures.value

pub invariant_of-result-clause-away_within : goal.invariant_of-result-clause-away_within
invariant_of-result-clause-away_within c = record { low = omega (arith, ints, c.away_of.ensures.bound); high = omega (arith, ints, c.away_of.ensures.bound) }

pub invariant_of-result-clause-place_small : goal.invariant_of-result-clause-place_small
invariant_of-result-clause-place_small c = omega (arith, ints, c.half_of.ensures.bound, c.requires.place)

pub invariant_of-result-clause-side_small : goal.invariant_of-result-clause-side_small
invariant_of-result-clause-side_small c = omega (arith, ints, c.half_of-2.ensures.bound, c.requires.lo_within, c.requires.hi_within)
