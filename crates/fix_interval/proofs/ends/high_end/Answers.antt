use Rattle.std.proofs.Common.{arith, rules, FitsSigned, refl}
use Rattle.std.specs.Prelude.{◌+ℤ◌, pos}
use Rattle.std.specs.Int.{w128}
use Rattle.std.proofs.lemmas.Int.{ints, to_z-of_z}
use Rattle.grid_model.proofs.RoundingLemmas.{high_end_holds, high_end_tight}
use Rattle.fix_interval.proofs.ends.high_end.Goals as goal

pub returns-clause-holds : goal.returns-clause-holds
returns-clause-holds c v h =
    let f : FitsSigned w128 c.args.num = c.ranges.num in
    let g : FitsSigned w128 c.args.den = c.ranges.den in
    let i : FitsSigned w128 c.floor_of.result = search rules in
    let j : FitsSigned w128 (c.floor_of.result +ℤ pos 1) = omega (arith, ints) in
    let k = simp to_z-of_z at c.floor_of.ensures.floor in
    simp to_z-of_z (high_end_holds c.args.num c.args.den c.floor_of.result _ v c.requires.positive k refl h)

pub returns-clause-tight : goal.returns-clause-tight
returns-clause-tight c =
    let f : FitsSigned w128 c.args.num = c.ranges.num in
    let g : FitsSigned w128 c.args.den = c.ranges.den in
    let i : FitsSigned w128 c.floor_of.result = search rules in
    let j : FitsSigned w128 (c.floor_of.result +ℤ pos 1) = omega (arith, ints) in
    let k = simp to_z-of_z at c.floor_of.ensures.floor in
    simp to_z-of_z (high_end_tight c.args.num c.args.den c.floor_of.result _ c.requires.positive k refl)
