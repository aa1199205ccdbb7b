use Rattle.std.proofs.Common.{arith, rules, FitsSigned, w64, refl}
use Rattle.std.specs.Prelude.{◌-ℤ◌}
use Rattle.std.specs.Int.{w128}
use Rattle.std.proofs.lemmas.Int.{ints, to_z-of_z}
use Rattle.grid_model.specs.Boxes.{grid_box, side_at}
use Rattle.row_pairs.proofs.LeastLemmas.{term_at}
use Rattle.row_pairs.proofs.conflicts.least_on.Goals as goal

pub returns-clause-least : goal.returns-clause-least
returns-clause-least c =
    let f : FitsSigned w64 c.args.f = c.ranges.f in
    let g : FitsSigned w64 c.args.g = c.ranges.g in
    let d : FitsSigned w64 (c.args.f -ℤ c.args.g) = omega (arith, ints) in
    let l : FitsSigned w64 c.side-lo.result.0 = search rules in
    let h : FitsSigned w64 c.side-lo.result.1 = search rules in
    let r : FitsSigned w128 c.least_term.result = search rules in
    let t = simp to_z-of_z at c.least_term.ensures.least in
    simp to_z-of_z (term_at _ _ _ _ (c.args.f -ℤ c.args.g) (side_at c.args.axis (grid_box c.args.part.now)).lo (side_at c.args.axis (grid_box c.args.part.now)).hi
    t refl c.side-lo.ensures.lo c.side-lo.ensures.hi)
