use Rattle.std.proofs.Common.{rules, FitsSigned}
use Rattle.std.specs.Int.{w128}
use Rattle.std.proofs.lemmas.Int.{to_z-of_z}
use Rattle.grid_model.proofs.RoundingLemmas.{floor_is, floor_within}
use Rattle.fix_interval.proofs.ends.floor_of.Goals as goal

pub returns-clause-floor : goal.returns-clause-floor
returns-clause-floor c =
    let f : FitsSigned w128 c.args.num = c.ranges.num in
    let g : FitsSigned w128 c.args.den = c.ranges.den in
    let h : FitsSigned w128 c.div_euclid.result = search rules in
    let e = simp to_z-of_z at c.div_euclid.ensures in
    simp to_z-of_z (simp e (floor_is c.args.num c.args.den c.requires.positive))

pub returns-clause-size : goal.returns-clause-size
returns-clause-size c =
    let f : FitsSigned w128 c.args.num = c.ranges.num in
    let g : FitsSigned w128 c.args.den = c.ranges.den in
    let h : FitsSigned w128 c.div_euclid.result = search rules in
    let e = simp to_z-of_z at c.div_euclid.ensures in
    simp to_z-of_z (simp e (floor_within _ c.args.num c.args.den c.requires.positive c.requires.num_size))
