use Rattle.std.proofs.Common.{◌*◌, arith, refl, FitsSigned, w64}
use Rattle.std.specs.Prelude.{◌*ℤ◌}
use Rattle.std.proofs.lemmas.Int.{ints, to_z-of_z}
use Rattle.grid_model.specs.Sizes.{IsWithin}
use Rattle.grid_model.proofs.ProductLemmas.{product_within}
use Rattle.row_sums.proofs.adding.times_slope.Goals as goal

pub returns-clause-value : goal.returns-clause-value
returns-clause-value c =
    let f : FitsSigned w64 c.args.multiplier = c.ranges.multiplier in
    let g : FitsSigned w64 c.args.slope = c.ranges.slope in
    let w : IsWithin (1048576 * 4194304) (c.args.multiplier *ℤ c.args.slope) = product_within 1048576 4194304 c.args.multiplier c.args.slope c.requires.multiplier c.requires.slope in
    let p : FitsSigned w64 (c.args.multiplier *ℤ c.args.slope) = omega (arith, ints, w.low, w.high) in
    simp to_z-of_z refl

pub returns-clause-bound : goal.returns-clause-bound
returns-clause-bound c =
    let w : IsWithin (1048576 * 4194304) (c.args.multiplier *ℤ c.args.slope) = product_within 1048576 4194304 c.args.multiplier c.args.slope c.requires.multiplier c.requires.slope in
    let v = returns-clause-value c in
    record { low = omega (arith, ints, w.low, w.high, v); high = omega (arith, ints, w.low, w.high, v) }
