use Rattle.std.proofs.Common.{◌≡◌, ◌*◌, arith, rules, refl, FitsSigned, w64}
use Rattle.std.specs.Prelude.{pos, ◌*ℤ◌, ◌-ℤ◌}
use Rattle.std.specs.Int.{w128}
use Rattle.std.proofs.lemmas.Int.{ints, to_z-of_z}
use Rattle.grid_model.specs.Sizes.{IsWithin}
use Rattle.grid_model.proofs.ProductLemmas.{product_within}
use Rattle.row_sums.proofs.AboveLemmas.{natural_within}
use Rattle.row_sums.proofs.axes.aimed_slope.Goals as goal

pub returns-clause-value : goal.returns-clause-value
returns-clause-value c =
    let f : FitsSigned w64 c.args.slope = c.ranges.slope in
    let g : FitsSigned w64 c.args.component = c.ranges.component in
    let f' : FitsSigned w128 c.args.slope = omega (arith, ints) in
    let g' : FitsSigned w128 c.args.component = omega (arith, ints) in
    let a' : FitsSigned w128 (pos c.args.aim) = omega (arith, ints, c.requires.aim) in
    let i : FitsSigned w128 c.from.result = search rules in
    let j : FitsSigned w128 c.from-2.result = search rules in
    let k : FitsSigned w128 c.from-3.result = search rules in
    let slope : c.from.result ≡ c.args.slope = simp to_z-of_z at c.from.ensures in
    let aim : c.from-2.result ≡ pos c.args.aim = c.from-2.ensures in
    let way : c.from-3.result ≡ c.args.component = simp to_z-of_z at c.from-3.ensures in
    let w : IsWithin (17592186044416 * 1000000) (pos c.args.aim *ℤ c.args.component) = product_within 17592186044416 1000000 (pos c.args.aim) c.args.component (natural_within _ _ c.requires.aim) c.requires.component in
    let p : FitsSigned w128 (pos c.args.aim *ℤ c.args.component) = omega (arith, ints, w.low, w.high) in
    let d : FitsSigned w128 (c.args.slope -ℤ (pos c.args.aim *ℤ c.args.component)) = omega (arith, ints, w.low, w.high, c.requires.slope) in
    rw (slope, aim, way) (simp to_z-of_z refl)

pub returns-clause-bound : goal.returns-clause-bound
returns-clause-bound c =
    let w : IsWithin (17592186044416 * 1000000) (pos c.args.aim *ℤ c.args.component) = product_within 17592186044416 1000000 (pos c.args.aim) c.args.component (natural_within _ _ c.requires.aim) c.requires.component in
    let v = returns-clause-value c in
    record { low = omega (arith, ints, w.low, w.high, c.requires.slope, v); high = omega (arith, ints, w.low, w.high, c.requires.slope, v) }
