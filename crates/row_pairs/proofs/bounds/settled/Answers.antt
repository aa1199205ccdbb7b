use Rattle.std.proofs.Common.{arith, FitsSigned}
use Rattle.std.specs.Prelude.{pos, ◌+ℤ◌, ◌<ℤ◌}
use Rattle.std.specs.Int.{w128}
use Rattle.std.proofs.lemmas.Int.{ints, to_z-of_z}
use Rattle.grid_model.specs.Rounding.{IsFloor}
use Rattle.row_pairs.proofs.QuotientLemmas.{quotient_is}
use Rattle.row_pairs.proofs.bounds.settled.Goals as goal

pub returns-then-is_quotient : goal.returns-then-is_quotient
returns-then-is_quotient c =
    let p : pos 0 <ℤ pos c.args.den = omega (arith, ints) in
    let f : FitsSigned w128 c.args.num = c.ranges.num in
    let g : FitsSigned w128 c.args.guess = c.ranges.guess in
    let q : IsFloor c.args.num (pos c.args.den) c.args.guess = simp to_z-of_z at c.is_quotient.ensures.0 c.if-is_quotient.true in
    simp to_z-of_z (quotient_is _ _ _ p q)

pub returns-then-is_quotient-2 : goal.returns-then-is_quotient-2
returns-then-is_quotient-2 c =
    let p : pos 0 <ℤ pos c.args.den = omega (arith, ints) in
    let f : FitsSigned w128 c.args.num = c.ranges.num in
    let g : FitsSigned w128 (c.args.guess +ℤ pos 1) = omega (arith, ints) in
    let h : FitsSigned w128 c.args.guess = c.ranges.guess in
    let q : IsFloor c.args.num (pos c.args.den) (c.args.guess +ℤ pos 1) = simp to_z-of_z at c.is_quotient-2.ensures.0 c.if-is_quotient-2.true in
    simp to_z-of_z (quotient_is _ _ _ p q)
