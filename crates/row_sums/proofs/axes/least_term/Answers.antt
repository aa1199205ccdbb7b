use Rattle.std.proofs.Common.{◌≡◌, arith, rules, FitsSigned, w64}
use Rattle.std.specs.Prelude.{pos, ◌*ℤ◌, ◌-ℤ◌, ◌≤ℤ◌}
use Rattle.std.specs.Int.{w128}
use Rattle.std.proofs.lemmas.Int.{ints, to_z-of_z}
use Rattle.grid_model.specs.Boxes.{middle}
use Rattle.row_pairs.proofs.LeastLemmas.{least_at_low, least_at_high}
use Rattle.row_sums.proofs.axes.least_term.Goals as goal

pub returns-then-slope-ge0-clause-least : goal.returns-then-slope-ge0-clause-least
returns-then-slope-ge0-clause-least c =
    let f : FitsSigned w64 c.args.lo = c.ranges.lo in
    let g : FitsSigned w64 c.args.hi = c.ranges.hi in
    let s : FitsSigned w128 c.args.slope = c.ranges.slope in
    let mid : c.middle_of-middle.result ≡ middle (record { lo = c.args.lo; hi = c.args.hi }) = simp to_z-of_z at c.middle_of-middle.ensures.value in
    let p : pos 0 ≤ℤ c.args.slope = omega (arith, ints) in
    let m : FitsSigned w64 c.middle_of-middle.result = search rules in
    let d : FitsSigned w64 (c.args.lo -ℤ c.middle_of-middle.result) = omega (arith, ints, c.middle_of-middle.ensures.between) in
    let r : FitsSigned w128 c.times.result = search rules in
    let t : c.times.result ≡ c.args.slope *ℤ (c.args.lo -ℤ c.middle_of-middle.result) = simp to_z-of_z at c.times.ensures.value in
    simp to_z-of_z (rw (t, mid) (least_at_low c.args.slope c.args.lo c.args.hi c.requires.ordered p))

pub returns-else-slope-ge0-clause-least : goal.returns-else-slope-ge0-clause-least
returns-else-slope-ge0-clause-least c =
    let f : FitsSigned w64 c.args.lo = c.ranges.lo in
    let g : FitsSigned w64 c.args.hi = c.ranges.hi in
    let s : FitsSigned w128 c.args.slope = c.ranges.slope in
    let mid : c.middle_of-middle.result ≡ middle (record { lo = c.args.lo; hi = c.args.hi }) = simp to_z-of_z at c.middle_of-middle.ensures.value in
    let p : c.args.slope ≤ℤ pos 0 = omega (arith, ints) in
    let m : FitsSigned w64 c.middle_of-middle.result = search rules in
    let d : FitsSigned w64 (c.args.hi -ℤ c.middle_of-middle.result) = omega (arith, ints, c.middle_of-middle.ensures.between) in
    let r : FitsSigned w128 c.times-else-slope-ge0.result = search rules in
    let t : c.times-else-slope-ge0.result ≡ c.args.slope *ℤ (c.args.hi -ℤ c.middle_of-middle.result) = simp to_z-of_z at c.times-else-slope-ge0.ensures.value in
    simp to_z-of_z (rw (t, mid) (least_at_high c.args.slope c.args.lo c.args.hi c.requires.ordered p))
