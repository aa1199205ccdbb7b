use Rattle.std.proofs.Common.{◌≡◌, ◌*◌, arith, rules, refl, FitsSigned, w64}
use Rattle.std.specs.Prelude.{◌*ℤ◌}
use Rattle.std.specs.Int.{w128}
use Rattle.std.proofs.lemmas.Int.{ints, to_z-of_z}
use Rattle.grid_model.specs.Boxes.{middle}
use Rattle.grid_model.specs.Sizes.{IsWithin}
use Rattle.grid_model.proofs.ProductLemmas.{product_within}
use Rattle.row_sums.proofs.axes.middle_term.Goals as goal

pub returns-clause-value : goal.returns-clause-value
returns-clause-value c =
    let f : FitsSigned w64 c.args.lo = c.ranges.lo in
    let g : FitsSigned w64 c.args.hi = c.ranges.hi in
    let h : FitsSigned w64 c.args.component = c.ranges.component in
    let m : FitsSigned w64 c.middle_of.result = search rules in
    let h' : FitsSigned w128 c.args.component = omega (arith, ints) in
    let m' : FitsSigned w128 c.middle_of.result = omega (arith, ints, c.middle_of.ensures.between, c.requires.lo, c.requires.hi) in
    let i : FitsSigned w128 c.from.result = search rules in
    let j : FitsSigned w128 c.from-2.result = search rules in
    let way : c.from.result ≡ c.args.component = simp to_z-of_z at c.from.ensures in
    let at : c.from-2.result ≡ c.middle_of.result = simp to_z-of_z at c.from-2.ensures in
    let mid : c.middle_of.result ≡ middle (record { lo = c.args.lo; hi = c.args.hi }) = simp to_z-of_z at c.middle_of.ensures.value in
    let b : IsWithin 10000000000000 c.middle_of.result = record {
      low = omega (arith, ints, c.middle_of.ensures.between, c.requires.lo, c.requires.hi);
      high = omega (arith, ints, c.middle_of.ensures.between, c.requires.lo, c.requires.hi);
    } in
    let w : IsWithin (1000000 * 10000000000000) (c.args.component *ℤ c.middle_of.result) = product_within 1000000 10000000000000 c.args.component c.middle_of.result c.requires.component b in
    let p : FitsSigned w128 (c.args.component *ℤ c.middle_of.result) = omega (arith, ints, w.low, w.high) in
    rw (way, at, ← mid) (simp to_z-of_z refl)

pub returns-clause-bound : goal.returns-clause-bound
returns-clause-bound c =
    let f : FitsSigned w64 c.args.lo = c.ranges.lo in
    let g : FitsSigned w64 c.args.hi = c.ranges.hi in
    let h : FitsSigned w64 c.args.component = c.ranges.component in
    let m : FitsSigned w64 c.middle_of.result = search rules in
    let mid : c.middle_of.result ≡ middle (record { lo = c.args.lo; hi = c.args.hi }) = simp to_z-of_z at c.middle_of.ensures.value in
    let b : IsWithin 10000000000000 c.middle_of.result = record {
      low = omega (arith, ints, c.middle_of.ensures.between, c.requires.lo, c.requires.hi);
      high = omega (arith, ints, c.middle_of.ensures.between, c.requires.lo, c.requires.hi);
    } in
    let w : IsWithin (1000000 * 10000000000000) (c.args.component *ℤ middle (record { lo = c.args.lo; hi = c.args.hi })) = rw mid at (product_within 1000000 10000000000000 c.args.component c.middle_of.result c.requires.component b) in
    let v = returns-clause-value c in
    record { low = omega (arith, ints, w.low, w.high, v); high = omega (arith, ints, w.low, w.high, v) }
