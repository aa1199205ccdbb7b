use Rattle.std.proofs.Common.{◌≡◌, ◌*◌, arith, rules, refl, FitsSigned, w64}
use Rattle.std.specs.Prelude.{◌*ℤ◌}
use Rattle.std.specs.Int.{w128}
use Rattle.std.proofs.lemmas.Int.{ints, to_z-of_z}
use Rattle.grid_model.specs.Sizes.{IsWithin}
use Rattle.grid_model.proofs.ProductLemmas.{product_within}
use Rattle.row_sums.proofs.axes.times.Goals as goal

pub returns-clause-value : goal.returns-clause-value
returns-clause-value c =
    let f : FitsSigned w128 c.args.slope = c.ranges.slope in
    let g : FitsSigned w64 c.args.way = c.ranges.way in
    let k : FitsSigned w128 c.args.way = omega (arith, ints) in
    let h : FitsSigned w128 c.from.result = search rules in
    let e : c.from.result ≡ c.args.way = simp to_z-of_z at c.from.ensures in
    let w : IsWithin (20000000000000000000 * 20000000000000) (c.args.slope *ℤ c.args.way) = product_within 20000000000000000000 20000000000000 c.args.slope c.args.way c.requires.slope c.requires.way in
    let p : FitsSigned w128 (c.args.slope *ℤ c.args.way) = omega (arith, ints, w.low, w.high) in
    rw e (simp to_z-of_z refl)

pub returns-clause-bound : goal.returns-clause-bound
returns-clause-bound c =
    let w : IsWithin (20000000000000000000 * 20000000000000) (c.args.slope *ℤ c.args.way) = product_within 20000000000000000000 20000000000000 c.args.slope c.args.way c.requires.slope c.requires.way in
    let v = returns-clause-value c in
    record { low = omega (arith, ints, w.low, w.high, v); high = omega (arith, ints, w.low, w.high, v) }
