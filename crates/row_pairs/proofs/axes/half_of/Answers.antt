use Rattle.std.proofs.Common.{◌≡◌, arith, FitsSigned, w64}
use Rattle.std.proofs.lemmas.Int.{ints, to_z-of_z}
use Rattle.grid_model.specs.Boxes.{middle}
use Rattle.grid_model.proofs.AmountLemmas.{above_is}
use Rattle.sat_model.proofs.PairFormLemmas.{half_is}
use Rattle.row_pairs.proofs.axes.half_of.Goals as goal

pub returns-clause-value : goal.returns-clause-value
returns-clause-value c =
    let h : FitsSigned w64 c.args.lo = c.ranges.lo in
    let i : FitsSigned w64 c.args.hi = c.ranges.hi in
    let mid : c.middle_of.result ≡ middle (record { lo = c.args.lo; hi = c.args.hi }) = simp to_z-of_z at c.middle_of.ensures.value in
    omega (arith, ints, mid, c.middle_of.ensures.between, half_is (record { lo = c.args.lo; hi = c.args.hi }) c.requires.ordered)

pub returns-clause-bound : goal.returns-clause-bound
returns-clause-bound c =
    let h : FitsSigned w64 c.args.lo = c.ranges.lo in
    let i : FitsSigned w64 c.args.hi = c.ranges.hi in
    let mid : c.middle_of.result ≡ middle (record { lo = c.args.lo; hi = c.args.hi }) = simp to_z-of_z at c.middle_of.ensures.value in
    omega (arith, ints, mid, c.middle_of.ensures.between, above_is c.args.hi c.args.lo)
