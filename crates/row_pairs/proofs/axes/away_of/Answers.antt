use Rattle.std.proofs.Common.{◌≡◌, arith, rules, FitsSigned, w64}
use Rattle.std.specs.Prelude.{◌-ℤ◌}
use Rattle.std.proofs.lemmas.Int.{ints, to_z-of_z}
use Rattle.grid_model.specs.Boxes.{middle, span_side}
use Rattle.row_pairs.proofs.SameLemmas.{away_same}
use Rattle.row_pairs.proofs.axes.away_of.Goals as goal

pub returns-clause-value : goal.returns-clause-value
returns-clause-value c =
    let f : FitsSigned w64 c.args.place.now.lo = search rules in
    let g : FitsSigned w64 c.args.place.now.hi = search rules in
    let h : FitsSigned w64 c.args.lo = c.ranges.lo in
    let i : FitsSigned w64 c.args.hi = c.ranges.hi in
    let mid : c.middle_of.result ≡ middle (record { lo = c.args.lo; hi = c.args.hi }) = simp to_z-of_z at c.middle_of.ensures.value in
    let at : c.middle_of-2.result ≡ middle (span_side c.args.place.now) = simp to_z-of_z at c.middle_of-2.ensures.value in
    let j : FitsSigned w64 c.middle_of.result = search rules in
    let k : FitsSigned w64 c.middle_of-2.result = search rules in
    let d : FitsSigned w64 (c.middle_of.result -ℤ c.middle_of-2.result) = omega (arith, ints, c.middle_of.ensures.between, c.middle_of-2.ensures.between, c.requires.place) in
    simp to_z-of_z (away_same c.args.place.now (record { lo = c.args.lo; hi = c.args.hi }) c.middle_of.result c.middle_of-2.result mid at)

pub returns-clause-bound : goal.returns-clause-bound
returns-clause-bound c = record {
  low = omega (arith, ints, c.middle_of.ensures.between, c.middle_of-2.ensures.between, c.requires.place);
  high = omega (arith, ints, c.middle_of.ensures.between, c.middle_of-2.ensures.between, c.requires.place);
}
