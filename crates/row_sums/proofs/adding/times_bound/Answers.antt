use Rattle.std.proofs.Common.{◌≡◌, ◌*◌, arith, rules, refl, FitsSigned, w64}
use Rattle.std.specs.Prelude.{◌*ℤ◌}
use Rattle.std.specs.Int.{w128}
use Rattle.std.proofs.lemmas.Int.{ints, to_z-of_z}
use Rattle.grid_model.specs.Sizes.{IsWithin}
use Rattle.grid_model.proofs.ProductLemmas.{product_within}
use Rattle.row_sums.proofs.adding.times_bound.Goals as goal

pub returns-clause-value : goal.returns-clause-value
returns-clause-value c =
    let f : FitsSigned w64 c.args.multiplier = c.ranges.multiplier in
    let g : FitsSigned w128 c.args.bound = c.ranges.bound in
    let h : FitsSigned w128 c.args.multiplier = omega (arith, ints) in
    let i : FitsSigned w128 c.from.result = search rules in
    let e : c.from.result ≡ c.args.multiplier = simp to_z-of_z at c.from.ensures in
    let w : IsWithin (1048576 * 1000000000000000000000000000000) (c.args.multiplier *ℤ c.args.bound) = product_within 1048576 1000000000000000000000000000000 c.args.multiplier c.args.bound c.requires.multiplier c.requires.bound in
    let p : FitsSigned w128 (c.args.multiplier *ℤ c.args.bound) = omega (arith, ints, w.low, w.high) in
    rw e (simp to_z-of_z refl)

pub returns-clause-bound : goal.returns-clause-bound
returns-clause-bound c =
    let w : IsWithin (1048576 * 1000000000000000000000000000000) (c.args.multiplier *ℤ c.args.bound) = product_within 1048576 1000000000000000000000000000000 c.args.multiplier c.args.bound c.requires.multiplier c.requires.bound in
    let v = returns-clause-value c in
    record { low = omega (arith, ints, w.low, w.high, v); high = omega (arith, ints, w.low, w.high, v) }
