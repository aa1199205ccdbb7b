use Rattle.std.proofs.Common.{◌≡◌, ◌*◌, arith, rules, false, FitsSigned}
use Rattle.std.specs.Prelude.{pos, ◌*ℤ◌, ◌-ℤ◌}
use Rattle.std.specs.Int.{w128}
use Rattle.std.proofs.lemmas.Int.{ints, to_z-of_z}
use Rattle.grid_model.specs.Sizes.{IsWithin}
use Rattle.grid_model.proofs.ProductLemmas.{product_within}
use Rattle.row_pairs.proofs.QuotientLemmas.{left_over}
use lib.Signed.{lt_z}
use Rattle.row_pairs.proofs.bounds.is_quotient.Goals as goal

pub returns : goal.returns
returns c =
    let f : FitsSigned w128 c.args.num = c.ranges.num in
    let g : FitsSigned w128 c.args.v = c.ranges.v in
    let a : FitsSigned w128 c.from.result = search rules in
    let b : FitsSigned w128 c.from-2.result = search rules in
    let d : IsWithin 18446744073709551615 c.from.result = record { low = omega (arith, ints, c.from.ensures); high = omega (arith, ints, c.from.ensures) } in
    let w : IsWithin (300000000000000000 * 18446744073709551615) (c.args.v *ℤ c.from.result) = product_within 300000000000000000 18446744073709551615 c.args.v c.from.result c.requires.v d in
    let p : FitsSigned w128 (c.args.v *ℤ c.from.result) = omega (arith, ints, w.low, w.high) in
    let r : FitsSigned w128 (c.args.num -ℤ (c.args.v *ℤ c.from.result)) = omega (arith, ints, w.low, w.high, c.requires.num.low, c.requires.num.high) in
    let s : lt_z (c.args.num -ℤ (c.args.v *ℤ c.from.result)) (pos 0) ≡ false = simp to_z-of_z at c.if-rest-lt0.false in
    simp to_z-of_z (rw (c.from.ensures, c.from-2.ensures) (left_over c.args.num c.args.v (pos c.args.den) (rw c.from.ensures at s)))
